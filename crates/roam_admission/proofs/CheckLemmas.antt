-- Two tests of one fact.
use Rattle.std.proofs.Common.{◌≡◌, ◌↔◌, Bool, true, false, IsTrue, refl}

-- two tests that are true just where one fact holds are the same
pub same_test : {P : Type 0} → (a b : Bool) → IsTrue a ↔ P → IsTrue b ↔ P → a ≡ b
same_test true true first second = refl
same_test true false first second = absurd (cc (second.1 (first.0 refl)))
same_test false true first second = absurd (cc (first.1 (second.0 refl)))
same_test false false first second = refl
