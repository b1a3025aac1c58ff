-- The values of a packet's attributes are short.
use Rattle.std.proofs.Common.{◌≡◌, ℕ, ◌≤◌, Bool, List, [], ◌∷◌, length, Option, Some, None, refl, subst, inl, inr}
use Rattle.std.specs.Prelude.{find, option_map}
use Rattle.std.specs.List.{AllByRecursion}
use Rattle.std.proofs.lemmas.Bool.{cases_Bool}
use Rattle.roam_wire.specs.Attributes.{first_value, has_kind}
use Rattle.roam_wire.specs.Packet.{Attribute, IsAttribute, IsPacket, Packet}

-- what is found is one of them
pub found-short : (test : Attribute → Bool) (xs : List Attribute) (a : Attribute) → AllByRecursion IsAttribute xs
    → find test xs ≡ Some a → length a.value ≤ 253
found-short test [] a all is = absurd (cc is)
found-short test (x ∷ xs) a all is = elim (cases_Bool (test x)) [
  | inl here ↦ (
      let same : Some x ≡ Some a = rw here at is in
      let one : x ≡ a = cc same in
      subst (λ (y : Attribute). length y.value ≤ 253) one all.0.size)
  | inr other ↦ (
      let rest : find test xs ≡ Some a = rw other at is in
      found-short test xs a all.1 rest)
]

-- the first value of a type is short
pub first-short : (kind : ℕ) (p : Packet) (value : List ℕ) → IsPacket p → first_value kind p.attributes ≡ Some value
    → length value ≤ 253
first-short kind p value packet is = by (find (has_kind kind) p.attributes) refl is
  where
    by : (o : Option Attribute) → find (has_kind kind) p.attributes ≡ o
        → option_map (λ (a : Attribute). a.value) o ≡ Some value → length value ≤ 253
    by None at none = absurd (cc none)
    by (Some a) at same = (
        let one : a.value ≡ value = cc same in
        subst (λ (l : List ℕ). length l ≤ 253) one
        (found-short (has_kind kind) p.attributes a packet.attributes at))
