-- Octets are the sub-attributes that are read from them (RFC 2865, section 5.26).
use Rattle.std.proofs.Common.{◌≡◌, ℕ, zero, suc, ◌+◌, ◌-◌, ◌≤◌, true, List, [], ◌∷◌, ◌++◌, length, take, drop, Option, Some, None, refl, sym, ap, ◌∙◌, subst, arith, length-append}
use Rattle.std.specs.Prelude.{nat_le}
use Rattle.std.proofs.lemmas.Bool.Decides.{nat_tests}
use Rattle.std.proofs.lemmas.Option.{cond_some, option_and_then_some, same_Some}
use Rattle.std.proofs.lemmas.List.{take-append-drop, take_at, drop_at, length-take}
use Rattle.roam_wire.specs.Packet.{Attribute, attribute_text, attributes_text}
use Rattle.roam_wire.specs.Reading.{attribute_at, with_first, attributes_within, attributes_of}
use Rattle.roam_wire.proofs.WalkLemmas.{length-behind, attributes_of-cons}

-- an attribute's octets begin with that attribute
attribute_at_text : (a : Attribute) (rest : List ℕ)
    → attribute_at (attribute_text a ++ rest) ≡ Some (a, rest)
attribute_at_text a rest =
    let two : nat_le 2 (length a.value + 2) ≡ true = grind (arith, nat_tests) in
    let all_there : nat_le (length a.value + 2) (length (a.value ++ rest) + 2) ≡ true =
    grind (arith, nat_tests, length-append a.value rest) in
    let size : length a.value + 2 - 2 ≡ length a.value = omega arith in
    rw (
      two,
      all_there,
      size,
      take_at a.value rest (length a.value) refl,
      drop_at a.value rest
          (length a.value) refl,
    ) refl

-- what sub-attributes spell is read as them
pub subs_read : (subs : List Attribute) → attributes_of (attributes_text subs) ≡ Some subs
unfolding attributes_of attributes_within
subs_read [] = refl
subs_read (sub ∷ others) =
    let step =
    attributes_of-cons sub.kind ((length sub.value + 2) ∷ sub.value ++ attributes_text others) in
    step ∙ rw (attribute_at_text sub (attributes_text others), subs_read others) refl

-- octets are those of one list at most
pub same_subs : (subs others : List Attribute) → attributes_text subs ≡ attributes_text others
    → subs ≡ others
same_subs subs others e = same_Some subs others
    (sym (subs_read subs) ∙ ap attributes_of e ∙ subs_read others)

-- the attribute that is found at the front is spelt there
spelt_at_front : (octets : List ℕ) (x : Attribute × List ℕ) → attribute_at octets ≡ Some x
    → octets ≡ attribute_text x.0 ++ x.1
spelt_at_front [] x h = absurd (cc)
spelt_at_front (kind ∷ []) x h = absurd (cc)
spelt_at_front (kind ∷ n ∷ rest) x h =
    let found = cond_some _ _ _ h in
    let two : 2 ≤ n = grind (arith, nat_tests, found.0) in
    let all_there : n ≤ length rest + 2 = grind (arith, nat_tests, found.0) in
    let size : length (take (n - 2) rest) + 2 ≡ n = omega (arith, length-take (n - 2) rest) in
    let a : Attribute = record { kind = kind; value = take (n - 2) rest } in
    let spelt : attribute_text a ++ drop (n - 2) rest ≡ kind ∷ n ∷ rest =
    rw (size, take-append-drop) refl in
    subst (λ (y : Attribute × List ℕ). (kind ∷ n ∷ rest) ≡ attribute_text y.0 ++ y.1) found.1
    (sym spelt)

-- where an attribute before others is some list, the others are
with_first-parts : (a : Attribute) (others : Option (List Attribute)) (all : List Attribute)
    → with_first a others ≡ Some all
    → (more : List Attribute) × (others ≡ Some more) × (a ∷ more ≡ all)
with_first-parts a None all h = absurd (cc)
with_first-parts a (Some more) all h = (more, refl, cc)

-- what is read from octets spells them
pub read_spells : (n : ℕ) (octets : List ℕ) (all : List Attribute) → length octets ≤ n
    → attributes_of octets ≡ Some all → octets ≡ attributes_text all
unfolding attributes_of attributes_within
read_spells n [] all bound h =
    let none : [] ≡ all = cc in
    subst (λ (t : List Attribute). [] ≡ attributes_text t) none refl
read_spells zero (b ∷ bs) all bound h = absurd (omega arith)
read_spells (suc n) (b ∷ bs) all bound h =
    let read = sym (attributes_of-cons b bs) ∙ h in
    option_and_then_some (λ (x : Attribute × List ℕ). with_first x.0 (attributes_of x.1))
    (attribute_at (b ∷ bs)) all read (λ x found others_read.
    let front = spelt_at_front (b ∷ bs) x found in
    let parts = with_first-parts x.0 (attributes_of x.1) all others_read in
    let fewer = length-behind (b ∷ bs) x found in
    let more = read_spells n x.1 parts.0 (omega arith) parts.1 in
    let spelt : (b ∷ bs) ≡ attributes_text (x.0 ∷ parts.0) = front
    ∙ ap (λ (t : List ℕ). attribute_text x.0 ++ t) more in
    subst (λ (t : List Attribute). (b ∷ bs) ≡ attributes_text t) parts.2 spelt)
