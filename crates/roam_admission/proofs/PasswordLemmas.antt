-- The passwords of an Access-Request that isn't rejected have whole blocks.
use Rattle.std.proofs.Common.{◌≡◌, ℕ, ◌+◌, Bool, true, false, List, [], ◌∷◌, Some, inl, inr, refl, sym, ap, ◌∙◌, arith}
use Rattle.std.specs.Prelude.{nat_lt, not, if◌then◌else◌, ◌||◌, is_some}
use Rattle.std.specs.List.{AllByRecursion}
use Rattle.std.specs.Option.{option_map_or}
use Rattle.std.proofs.lemmas.Bool.{cases_Bool}
use Rattle.std.proofs.lemmas.Bool.Decides.{nat_tests}
use Rattle.std.proofs.lemmas.List.Sums.{sum_by-cons}
use Rattle.roam_wire.specs.Packet.{Attribute, Packet}
use Rattle.roam_wire.specs.Attributes.{has_kind, count_of, first_value}
use Rattle.roam_wire.specs.declared.attribute_type.TheConstants.{USER_PASSWORD}
use Rattle.roam_crypto.specs.Hiding.{HasWholeBlocks, password_fits}
use Rattle.roam_conf.specs.Config.{ConfigView}
use Rattle.roam_forward.specs.Forwarded.{HasPasswordBlocks}
use Rattle.roam_admission.specs.declared.job.Side.{Side}
use Rattle.roam_admission.specs.LocalReject.{asked_realm, has_bad_password, has_too_many_hops, is_rejected}

-- a password of a size that fits has whole blocks
fitting : (value : List ℕ) → password_fits value ≡ true → HasWholeBlocks value
fitting value fits = record {
  not_empty = grind (arith, nat_tests, fits);
  whole_blocks = grind (arith, nat_tests, fits);
}

-- how many passwords an attribute is
abbrev one_of : Bool → ℕ
one_of is_password = if is_password then 1 else 0

counted : (a : Attribute) (all : List Attribute)
    → count_of USER_PASSWORD (a ∷ all) ≡ one_of (has_kind USER_PASSWORD a) + count_of USER_PASSWORD all
counted a all = sum_by-cons (λ (x : Attribute). one_of (has_kind USER_PASSWORD x)) a all

counted_yes : (a : Attribute) (all : List Attribute) → has_kind USER_PASSWORD a ≡ true
    → count_of USER_PASSWORD (a ∷ all) ≡ 1 + count_of USER_PASSWORD all
counted_yes a all found = counted a all ∙ ap (λ (b : Bool). one_of b + count_of USER_PASSWORD all) found

counted_no : (a : Attribute) (all : List Attribute) → has_kind USER_PASSWORD a ≡ false
    → count_of USER_PASSWORD (a ∷ all) ≡ count_of USER_PASSWORD all
counted_no a all other =
    let count = counted a all ∙ ap (λ (b : Bool). one_of b + count_of USER_PASSWORD all) other in
    omega (arith, count)

other_kind : (a : Attribute) → has_kind USER_PASSWORD a ≡ false → HasPasswordBlocks a
other_kind a other = record {
  whole_blocks = λ kind.
      absurd (let password : has_kind USER_PASSWORD a ≡ true = rw kind refl in cc (sym password ∙ other));
}

-- where there is no password, or one
none_blocks : (all : List Attribute) → count_of USER_PASSWORD all ≡ 0
    → AllByRecursion HasPasswordBlocks all
none_blocks [] none = tt
none_blocks (a ∷ all) none =
    elim (cases_Bool (has_kind USER_PASSWORD a)) [
      | inl found ↦ absurd (omega (arith, none, counted_yes a all found))
      | inr other ↦ (other_kind a other, none_blocks all (sym (counted_no a all other) ∙ none))
    ]

-- whether the first password has a size that it can't have
abbrev first_is_wrong : List Attribute → Bool
first_is_wrong all =
    option_map_or (λ value. not (password_fits value)) (first_value USER_PASSWORD all) false

first_yes : (a : Attribute) (all : List Attribute) → has_kind USER_PASSWORD a ≡ true
    → first_value USER_PASSWORD (a ∷ all) ≡ Some a.value
first_yes a all found = rw found refl

first_no : (a : Attribute) (all : List Attribute) → has_kind USER_PASSWORD a ≡ false
    → first_value USER_PASSWORD (a ∷ all) ≡ first_value USER_PASSWORD all
first_no a all other = rw other refl

is_fitting : (value : List ℕ) → not (password_fits value) ≡ false → password_fits value ≡ true
is_fitting value h = elim (cases_Bool (password_fits value)) [
  | inl fits ↦ fits
  | inr unfit ↦ absurd (let k : true ≡ false = rw unfit at h in cc k)
]

one_blocks : (all : List Attribute) → nat_lt 1 (count_of USER_PASSWORD all) ≡ false
    → first_is_wrong all ≡ false → AllByRecursion HasPasswordBlocks all
one_blocks [] few fits = tt
one_blocks (a ∷ all) few fits =
    elim (cases_Bool (has_kind USER_PASSWORD a)) [
      | inl found ↦
          let right : not (password_fits a.value) ≡ false = rw (first_yes a all found) at fits in
          let count = counted_yes a all found in
          let none : count_of USER_PASSWORD all ≡ 0 = grind (arith, nat_tests, few, count) in
          let whole : HasWholeBlocks a.value = fitting a.value (is_fitting a.value right) in
          let blocks : HasPasswordBlocks a = record { whole_blocks = λ kind. whole } in
          (blocks, none_blocks all none)
      | inr other ↦
          let count = counted_no a all other in
          let less : nat_lt 1 (count_of USER_PASSWORD all) ≡ false = rw count at few in
          let right : first_is_wrong all ≡ false = rw (first_no a all other) at fits in
          (other_kind a other, one_blocks all less right)
    ]

either_false : (a b : Bool) → (a || b) ≡ false → (a ≡ false) × (b ≡ false)
either_false true b h = absurd (cc h)
either_false false b h = (refl, h)

-- so an Access-Request that isn't rejected has no other passwords
pub unrejected_blocks : (config : ConfigView) (s : Side) (p : Packet) → is_rejected config s p ≡ false
    → AllByRecursion HasPasswordBlocks p.attributes
unrejected_blocks config s p passes =
    let all = either_false _ (has_too_many_hops config.max_hops p) passes in
    let names_none : Bool = not (is_some (asked_realm config s p.attributes)) in
    let bad = either_false names_none (has_bad_password p) all.0 in
    let parts = either_false _ _ bad.1 in
    let more = either_false _ _ parts.0 in
    one_blocks p.attributes more.1 parts.1
