use Rattle.std.proofs.Common.{◌≡◌, ℕ, ◌<◌, true, get_or}
use Rattle.hex.specs.Hex.{is_hex_digit}
use Rattle.roam_sim.proofs.reading.are_digits.Given as goal

abbrev pub invariant-loop-octet : goal.invariant-loop-octet
invariant-loop-octet l = (k d : ℕ) → k < l.octet-index → is_hex_digit (get_or l.octets k d) ≡ true
