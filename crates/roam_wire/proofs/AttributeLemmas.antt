-- Octets read as attributes just where attributes are spelt by them.
use Rattle.std.proofs.Common.{◌≡◌, ℕ, zero, suc, ◌+◌, ◌-◌, ◌<◌, ◌≤◌, true, List, [], ◌∷◌, ◌++◌, length, take, drop, subst, Option, Some, None, refl, sym, ap, ◌∙◌, arith, length-append}
use Rattle.std.specs.Prelude.{nat_le}
use Rattle.std.specs.List.{AllByRecursion}
use Rattle.std.proofs.lemmas.Bool.Decides.{nat_tests}
use Rattle.std.proofs.lemmas.Option.{cond_some, option_and_then_some}
use Rattle.std.proofs.lemmas.List.{take-append-drop, take_at, drop_at, length-take}
use Rattle.roam_wire.specs.Packet.{Attribute, IsAttribute, AreOctets, attribute_text, attributes_text}
use Rattle.roam_wire.specs.Reading.{attribute_at, with_first, attributes_within, attributes_of}
use Rattle.roam_wire.proofs.OctetLemmas.{AreOctets-take, AreOctets-drop}
use Rattle.roam_wire.proofs.WalkLemmas.{length-behind, attributes_of-cons}

-- an attribute and what follows it are these octets
pub record IsFront (octets : List ℕ) (x : Attribute × List ℕ) : Type 0 where
  pub spelt : octets ≡ attribute_text x.0 ++ x.1
  pub attribute : IsAttribute x.0
  pub behind : AreOctets x.1

-- the attribute that is found at the front is spelt there
pub attribute_at_front : (octets : List ℕ) (x : Attribute × List ℕ) → AreOctets octets → attribute_at octets ≡ Some x
    → IsFront octets x
attribute_at_front [] x fits h = absurd (cc)
attribute_at_front (kind ∷ []) x fits h = absurd (cc)
attribute_at_front (kind ∷ n ∷ rest) x fits h =
    let found = cond_some _ _ _ h in
    let two : 2 ≤ n = grind (arith, nat_tests, found.0) in
    let all_there : n ≤ length rest + 2 = grind (arith, nat_tests, found.0) in
    let size : length (take (n - 2) rest) + 2 ≡ n = omega (arith, length-take (n - 2) rest) in
    let a : Attribute = record { kind = kind; value = take (n - 2) rest } in
    let spelt : attribute_text a ++ drop (n - 2) rest ≡ kind ∷ n ∷ rest = rw (size, take-append-drop) refl in
    let octet : n < 256 = fits 1 in
    let rest_fits : AreOctets rest = λ i. fits (suc (suc i)) in
    let front : IsFront (kind ∷ n ∷ rest) (a, drop (n - 2) rest) = record {
      spelt = sym spelt;
      attribute = record { kind = fits 0; octets = AreOctets-take (n - 2) rest rest_fits; size = omega arith };
      behind = AreOctets-drop (n - 2) rest rest_fits;
    } in
    subst (IsFront (kind ∷ n ∷ rest)) found.1 front

-- where an attribute before others is some list, the others are
with_first-parts : (a : Attribute) (others : Option (List Attribute)) (all : List Attribute) →
    with_first a others ≡ Some all → (more : List Attribute) × (others ≡ Some more) × (a ∷ more ≡ all)
with_first-parts a None all h = absurd (cc)
with_first-parts a (Some more) all h = (more, refl, cc)

-- attributes that spell these octets
pub record Spell (octets : List ℕ) (all : List Attribute) : Type 0 where
  pub spelt : octets ≡ attributes_text all
  pub attributes : AllByRecursion IsAttribute all

-- what is read from octets spells them
pub read_spells : (n : ℕ) (octets : List ℕ) (all : List Attribute) → length octets ≤ n → AreOctets octets →
    attributes_of octets ≡ Some all → Spell octets all
unfolding attributes_of attributes_within
read_spells n [] all bound fits h =
    let none : [] ≡ all = cc in
    subst (Spell []) none (record { spelt = refl; attributes = tt })
read_spells zero (b ∷ bs) all bound fits h = absurd (omega arith)
read_spells (suc n) (b ∷ bs) all bound fits h =
    let read = sym (attributes_of-cons b bs) ∙ h in
    option_and_then_some (λ (x : Attribute × List ℕ). with_first x.0 (attributes_of x.1)) (attribute_at (b ∷ bs)) all
    read (λ x found then.
    let front = attribute_at_front (b ∷ bs) x fits found in
    let parts = with_first-parts x.0 (attributes_of x.1) all then in
    let fewer = length-behind (b ∷ bs) x found in
    let more = read_spells n x.1 parts.0 (omega arith) front.behind parts.1 in
    let spelt : (b ∷ bs) ≡ attributes_text (x.0 ∷ parts.0) = front.spelt
    ∙ ap (λ (t : List ℕ). attribute_text x.0 ++ t) more.spelt in
    subst (Spell (b ∷ bs)) parts.2 (record { spelt = spelt; attributes = (front.attribute, more.attributes) }))

-- an attribute's octets begin with that attribute
pub attribute_at-attribute_text : (a : Attribute) (rest : List ℕ) → IsAttribute a →
    attribute_at (attribute_text a ++ rest) ≡ Some (a, rest)
attribute_at-attribute_text a rest fits =
    let two : nat_le 2 (length a.value + 2) ≡ true = grind (arith, nat_tests) in
    let all_there : nat_le (length a.value + 2) (length (a.value ++ rest) + 2) ≡ true =
    grind (arith, nat_tests, length-append a.value rest) in
    let size : length a.value + 2 - 2 ≡ length a.value = omega arith in
    rw (
      two,
      all_there,
      size,
      take_at a.value rest (length a.value) refl,
      drop_at a.value rest (length a.value) refl,
    ) refl

-- what attributes spell is read as them
pub attributes_of-attributes_text : (all : List Attribute) → AllByRecursion IsAttribute all →
    attributes_of (attributes_text all) ≡ Some all
unfolding attributes_of attributes_within
attributes_of-attributes_text [] h = refl
attributes_of-attributes_text (a ∷ all) h =
    let step = attributes_of-cons a.kind ((length a.value + 2) ∷ a.value ++ attributes_text all) in
    step ∙ rw (attribute_at-attribute_text a (attributes_text all) h.0, attributes_of-attributes_text all h.1) refl
