use Rattle.std.proofs.Common.{◌≡◌, ◌++◌, take}
use Rattle.roam_log.specs.Values.{digits_text}
use Rattle.roam_log.proofs.station_text.push_digits.Given as goal

-- the octets so far
abbrev pub invariant-loop-octet : goal.invariant-loop-octet
invariant-loop-octet l = l.line.items ≡ l.initial.line.items ++ digits_text (take l.octet-index l.octets)
