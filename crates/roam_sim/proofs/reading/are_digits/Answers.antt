use Rattle.std.proofs.Common.{◌≡◌, ◌<◌, true, length, get_or, inl, inr, arith}
use Rattle.std.proofs.lemmas.Bool.{cases_lt}
use Rattle.std.proofs.lemmas.Bool.Decides.{nat_tests}
use Rattle.std.proofs.lemmas.List.{get_or_default}
use Rattle.hex.specs.Hex.{is_hex_digit}
use Rattle.roam_sim.proofs.reading.are_digits.Goals as goal

-- The next octet is a digit too.
pub loop-octet-preserved : goal.loop-octet-preserved
loop-octet-preserved c = λ k d below.
    let octets = c.args.octets.now in
    let i = c.loop-octet.octet-index in
    elim (cases_lt k i) [
      | inl before ↦ c.loop-octet.invariant k d before
      | inr top ↦
          let here : k < length octets = omega arith in
          let digit : is_hex_digit (get_or octets i 0) ≡ true = grind (arith, nat_tests) in
          let last : k ≡ i = omega arith in
          rw (get_or_default octets k d 0 here, last) digit
    ]
