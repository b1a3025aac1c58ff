-- What is written of a value is printable.
use Rattle.std.proofs.Common.{arith, ◌≡◌, ℕ, ◌+◌, ◌<◌, ◌/◌, ◌%◌, Bool, true, false, List, [], ◌∷◌, ◌++◌, refl, subst, sym, inl, inr}
use Rattle.std.specs.Prelude.{nat_lt}
use Rattle.std.proofs.lemmas.Bool.{cases_lt}
use Rattle.std.proofs.lemmas.Bool.Decides.{nat_tests}
use Rattle.roam_log.specs.Values.{digit, is_plain, quoted_octet, quoted_octets}
use Rattle.roam_log.specs.Printable.{ArePrintable, IsPrintable, ValuesArePrintable}

both : (a b : List ℕ) → ArePrintable a → ArePrintable b → ArePrintable (a ++ b)
both [] b one two = two
both (o ∷ os) b one two = (one.0, both os b one.1 two)

digit-is : (n : ℕ) → n < 16 → IsPrintable (digit n)
digit-is n small = elim (cases_lt n 10) as (λ _. IsPrintable (digit n)) [
  | inl lt ↦ (let is : nat_lt n 10 ≡ true = grind (arith, nat_tests, lt) in
      subst IsPrintable (sym (let e : digit n ≡ 48 + n = rw is refl in e))
      (record { least = omega (arith, lt); most = omega (arith, lt) }))
  | inr le ↦ (let is : nat_lt n 10 ≡ false = grind (arith, nat_tests, le) in
      subst IsPrintable (sym (let e : digit n ≡ 87 + n = rw is refl in e))
      (record { least = omega (arith, le); most = omega (arith, small) }))
]

plain-is : (o : ℕ) → is_plain o ≡ true → IsPrintable o
plain-is o is = record { least = grind (arith, nat_tests, is); most = grind (arith, nat_tests, is) }

by-test : (o : ℕ) (b : Bool) → is_plain o ≡ b → o < 256 → ArePrintable (quoted_octet o)
by-test o true is small =
    subst ArePrintable (sym (let e : quoted_octet o ≡ o ∷ [] = rw is refl in e)) (plain-is o is, tt)
by-test o false is small =
    subst ArePrintable (sym (let e : quoted_octet o ≡ 92 ∷ 120 ∷ digit (o / 16) ∷ digit (o % 16) ∷ [] = rw is refl in
    e)) (
      record { least = omega arith; most = omega arith },
      (
        record { least = omega arith; most = omega arith },
        (digit-is (o / 16) (omega (arith, small)), (digit-is (o % 16) (omega arith), tt)),
      ),
    )

pub are_printable : ValuesArePrintable
are_printable [] small = tt
are_printable (o ∷ os) small = both (quoted_octet o) (quoted_octets os) (by-test o (is_plain o) refl small.0)
    (are_printable os small.1)
