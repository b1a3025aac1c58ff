-- Packets with another Value in their Message-Authenticator.
use Rattle.std.proofs.Common.{◌≡◌, ◌≢◌, ℕ, ◌+◌, ◌≤◌, Bool, true, false, inl, inr, List, [], ◌∷◌, ◌++◌, length, Option, Some, None, refl, sym, ap, subst, ◌∙◌, arith, length-append}
use Rattle.std.specs.Prelude.{IsSomeAnd, if◌then◌else◌}
use Rattle.std.specs.List.{AllByRecursion}
use Rattle.std.proofs.lemmas.Bool.{cases_Bool, both_ways, eqb-true, ne_eqb}
use Rattle.std.proofs.lemmas.List.{map-append}
use Rattle.std.proofs.lemmas.List.Sums.{sum_by-cons}
use Rattle.roam_wire.specs.Packet.{AreOctets, Attribute, IsAttribute, Packet, IsPacket, attribute_text, attributes_text, packet_length}
use Rattle.roam_wire.specs.Attributes.{has_kind, count_of, first_value}
use Rattle.roam_wire.specs.declared.attribute_type.TheConstants.{MESSAGE_AUTHENTICATOR}
use Rattle.roam_crypto.specs.Authenticators.{AreSixteenOctets}
use Rattle.roam_crypto.specs.MessageAuthenticator.{HasNoMessageAuthenticator, HasOneMessageAuthenticator, HasAtMostOneMessageAuthenticator, attribute_with_value, attributes_with_value, with_value, StandsFirst}

-- ---- Message-Authenticators, in short

-- whether an attribute is one
abbrev pub is_seal : Attribute → Bool
is_seal = has_kind MESSAGE_AUTHENTICATOR

-- how many there are
abbrev pub seal_count : List Attribute → ℕ
seal_count = count_of MESSAGE_AUTHENTICATOR

-- the Value of the first one
abbrev pub first_seal : List Attribute → Option (List ℕ)
first_seal = first_value MESSAGE_AUTHENTICATOR

-- ---- counts and first Values, an attribute at a time

count_of-cons : (kind : ℕ) (a : Attribute) (all : List Attribute) →
    count_of kind (a ∷ all) ≡ (if has_kind kind a then 1 else 0) + count_of kind all
count_of-cons kind a all = sum_by-cons (λ (x : Attribute). if has_kind kind x then 1 else 0) a all

one_more : (b : Bool) (n m : ℕ) → n ≡ (if b then 1 else 0) + m → b ≡ true → n ≡ m + 1
one_more true n m e seal = omega arith
one_more false n m e seal = absurd (cc)

no_more : (b : Bool) (n m : ℕ) → n ≡ (if b then 1 else 0) + m → b ≡ false → n ≡ m
no_more true n m e other = absurd (cc)
no_more false n m e other = omega arith

-- an attribute of a Type counts one, and one of another Type none
pub count_of-yes : (kind : ℕ) (a : Attribute) (all : List Attribute) → has_kind kind a ≡ true →
    count_of kind (a ∷ all) ≡ count_of kind all + 1
count_of-yes kind a all here = one_more (has_kind kind a) _ _ (count_of-cons kind a all) here

pub count_of-no : (kind : ℕ) (a : Attribute) (all : List Attribute) → has_kind kind a ≡ false →
    count_of kind (a ∷ all) ≡ count_of kind all
count_of-no kind a all other = no_more (has_kind kind a) _ _ (count_of-cons kind a all) other

pub seal_count-yes : (a : Attribute) (all : List Attribute) → is_seal a ≡ true →
    seal_count (a ∷ all) ≡ seal_count all + 1
seal_count-yes a all seal =
    one_more (is_seal a) _ _ (count_of-cons MESSAGE_AUTHENTICATOR a all) seal

pub seal_count-no : (a : Attribute) (all : List Attribute) → is_seal a ≡ false →
    seal_count (a ∷ all) ≡ seal_count all
seal_count-no a all other =
    no_more (is_seal a) _ _ (count_of-cons MESSAGE_AUTHENTICATOR a all) other

first_value-yes : (kind : ℕ) (a : Attribute) (all : List Attribute) → has_kind kind a ≡ true →
    first_value kind (a ∷ all) ≡ Some a.value
first_value-yes kind a all seal = rw seal refl

first_value-no : (kind : ℕ) (a : Attribute) (all : List Attribute) → has_kind kind a ≡ false →
    first_value kind (a ∷ all) ≡ first_value kind all
first_value-no kind a all other = rw other refl

pub first_seal-yes : (a : Attribute) (all : List Attribute) → is_seal a ≡ true →
    first_seal (a ∷ all) ≡ Some a.value
first_seal-yes = first_value-yes MESSAGE_AUTHENTICATOR

pub first_seal-no : (a : Attribute) (all : List Attribute) → is_seal a ≡ false →
    first_seal (a ∷ all) ≡ first_seal all
first_seal-no = first_value-no MESSAGE_AUTHENTICATOR

-- no Value is the first where there is none
pub first_value-none : (all : List Attribute) → seal_count all ≡ 0 → first_seal all ≡ None
first_value-none [] none = refl
first_value-none (a ∷ all) none =
    elim (cases_Bool (is_seal a)) [
      | inl seal ↦ absurd (omega (arith, seal_count-yes a all seal))
      | inr other ↦
          first_seal-no a all other
          ∙ first_value-none all (sym (seal_count-no a all other) ∙ none)
    ]

-- and there is none where no Value is the first
pub count_of-none : (all : List Attribute) → None ≡ first_seal all → seal_count all ≡ 0
count_of-none [] none = refl
count_of-none (a ∷ all) none =
    elim (cases_Bool (is_seal a)) [
      | inl seal ↦ absurd (cc (none ∙ first_seal-yes a all seal))
      | inr other ↦
          seal_count-no a all other
          ∙ count_of-none all (none ∙ first_seal-no a all other)
    ]

-- ---- Message-Authenticators of 16 octets

-- a Message-Authenticator has 16 octets
pub record IsSized (a : Attribute) : Type 0 where
  pub size : is_seal a ≡ true → length a.value ≡ 16

-- so they have where there is none
sized_none : (all : List Attribute) → seal_count all ≡ 0 → AllByRecursion IsSized all
sized_none [] none = tt
sized_none (a ∷ all) none =
    elim (cases_Bool (is_seal a)) [
      | inl seal ↦ absurd (omega (arith, seal_count-yes a all seal))
      | inr other ↦ (
        record { size = λ seal. absurd (both_ways _ other seal) },
        sized_none all (sym (seal_count-no a all other) ∙ none),
      )
    ]

-- the first Value has 16 octets
abbrev FirstIsSized : Option (List ℕ) → Type 0
FirstIsSized first = IsSomeAnd first (λ value. length value ≡ 16)

-- and where there is just one, and it has
sized_one : (all : List Attribute) → seal_count all ≡ 1 → FirstIsSized (first_seal all) →
    AllByRecursion IsSized all
sized_one [] one size = tt
sized_one (a ∷ all) one size =
    elim (cases_Bool (is_seal a)) [
      | inl seal ↦
          let here : length a.value ≡ 16 = subst FirstIsSized (first_seal-yes a all seal) size in
          (record { size = λ _. here }, sized_none all (omega (arith, seal_count-yes a all seal)))
      | inr other ↦
          let there : FirstIsSized (first_seal all) =
          subst FirstIsSized (first_seal-no a all other) size in (
            record { size = λ seal. absurd (both_ways _ other seal) },
            sized_one all (sym (seal_count-no a all other) ∙ one) there,
          )
    ]

pub all_sized : (p : Packet) → HasAtMostOneMessageAuthenticator p →
    AllByRecursion IsSized p.attributes
all_sized p h =
    elim h [
      | inl none ↦ sized_none p.attributes none
      | inr one ↦ sized_one p.attributes one.one one.size
    ]

-- ---- one Value for another

-- the Value chosen has as many octets
same_size : (b : Bool) (value own : List ℕ) → (b ≡ true → length own ≡ length value) →
    length (if b then value else own) ≡ length own
same_size true value own h = sym (h refl)
same_size false value own h = refl

-- a Message-Authenticator of 16 octets for another leaves the number of octets
pub length-with_value : (value : List ℕ) (all : List Attribute) → length value ≡ 16 →
    AllByRecursion IsSized all →
    length (attributes_text (attributes_with_value value all)) ≡ length (attributes_text all)
length-with_value value [] size h = refl
length-with_value value (a ∷ all) size h =
    let here = same_size (is_seal a) value a.value (λ seal. h.0.size seal ∙ sym size) in
    let others = length-with_value value all size h.1 in
    omega (
      arith,
      length-append (attribute_text (attribute_with_value value a))
          (attributes_text (attributes_with_value value all)),
      length-append (attribute_text a) (attributes_text all),
    )

-- and each attribute stays short
pub IsAttribute-with_value : (value : List ℕ) (all : List Attribute) → AreSixteenOctets value →
    AllByRecursion IsAttribute all → AllByRecursion IsAttribute (attributes_with_value value all)
IsAttribute-with_value value [] sixteen h = tt
IsAttribute-with_value value (a ∷ all) sixteen h =
    let size = sixteen.size in
    let limit = h.0.size in
    let own = h.0.octets in
    let here : length (attribute_with_value value a).value ≤ 253 =
    elim (cases_Bool (is_seal a)) [
      | inl seal ↦ rw seal (omega arith)
      | inr other ↦ rw other limit
    ] in
    let octets : AreOctets (attribute_with_value value a).value =
    elim (cases_Bool (is_seal a)) [
      | inl seal ↦ rw seal sixteen.octets
      | inr other ↦ rw other own
    ] in
    (record { kind = h.0.kind; octets = octets; size = here }, IsAttribute-with_value value all sixteen h.1)

-- as many attributes of each Type stand there
pub count_of-with_value : (kind : ℕ) (value : List ℕ) (all : List Attribute) →
    count_of kind (attributes_with_value value all) ≡ count_of kind all
count_of-with_value kind value [] = refl
count_of-with_value kind value (a ∷ all) =
    count_of-cons kind (attribute_with_value value a) (attributes_with_value value all)
    ∙ ap (λ n. (if has_kind kind a then 1 else 0) + n) (count_of-with_value kind value all)
    ∙ sym (count_of-cons kind a all)

-- the Value chosen
chosen : (b : Bool) (value own : List ℕ) → b ≡ true → (if b then value else own) ≡ value
chosen true value own seal = refl
chosen false value own seal = absurd (cc)

not_chosen : (b : Bool) (value own : List ℕ) → b ≡ false → (if b then value else own) ≡ own
not_chosen true value own other = absurd (cc)
not_chosen false value own other = refl

-- the first Message-Authenticator then has that Value
pub first_value-with_value : (value : List ℕ) (all : List Attribute) → seal_count all ≡ 1 →
    first_seal (attributes_with_value value all) ≡ Some value
first_value-with_value value [] one = absurd (cc)
first_value-with_value value (a ∷ all) one =
    elim (cases_Bool (is_seal a)) [
      | inl seal ↦
          first_seal-yes (attribute_with_value value a) (attributes_with_value value all) seal
          ∙ ap Some (chosen (is_seal a) value a.value seal)
      | inr other ↦
          first_seal-no (attribute_with_value value a) (attributes_with_value value all) other
          ∙ first_value-with_value value all (sym (seal_count-no a all other) ∙ one)
    ]

-- a Value put in the place of another
chosen_twice : (b : Bool) (value before own : List ℕ) →
    (if b then value else (if b then before else own)) ≡ (if b then value else own)
chosen_twice true value before own = refl
chosen_twice false value before own = refl

again : (value before : List ℕ) (a : Attribute) →
    attribute_with_value value (attribute_with_value before a) ≡ attribute_with_value value a
again value before a =
    ap (λ (v : List ℕ). record a { value = v }) (chosen_twice (is_seal a) value before a.value)

map_again : (value before : List ℕ) (all : List Attribute) →
    attributes_with_value value (attributes_with_value before all) ≡ attributes_with_value value all
map_again value before [] = refl
map_again value before (a ∷ all) = rw (again value before a, map_again value before all) refl

-- what stood there before doesn't count
pub with_value-again : (value before : List ℕ) (p : Packet) →
    with_value value (with_value before p) ≡ with_value value p
with_value-again value before p =
    ap (λ (all : List Attribute). record p { attributes = all })
    (map_again value before p.attributes)

-- the first Value of every other Type stays
pub first_value-others : (kind : ℕ) (value : List ℕ) (all : List Attribute) →
    kind ≢ MESSAGE_AUTHENTICATOR →
    first_value kind (attributes_with_value value all) ≡ first_value kind all
first_value-others kind value [] apart = refl
first_value-others kind value (a ∷ all) apart =
    elim (cases_Bool (has_kind kind a)) [
      | inl found ↦
          let is_kind : a.kind ≡ kind = eqb-true a.kind kind found in
          let other : is_seal a ≡ false =
          ne_eqb a.kind MESSAGE_AUTHENTICATOR (λ e. apart (sym is_kind ∙ e)) in
          first_value-yes kind (attribute_with_value value a) (attributes_with_value value all)
          found
          ∙ ap Some (not_chosen (is_seal a) value a.value other)
          ∙ sym (first_value-yes kind a all found)
      | inr further ↦
          first_value-no kind (attribute_with_value value a) (attributes_with_value value all)
          further
          ∙ first_value-others kind value all apart
          ∙ sym (first_value-no kind a all further)
    ]

pub map_none : (value : List ℕ) (all : List Attribute) → seal_count all ≡ 0 →
    attributes_with_value value all ≡ all
map_none value [] none = refl
map_none value (a ∷ all) none =
    elim (cases_Bool (is_seal a)) [
      | inl seal ↦ absurd (omega (arith, seal_count-yes a all seal))
      | inr other ↦
          let here : attribute_with_value value a ≡ a =
          ap (λ (v : List ℕ). record a { value = v }) (not_chosen (is_seal a) value a.value other)
          in
          let others = map_none value all (sym (seal_count-no a all other) ∙ none) in
          rw (here, others) refl
    ]

-- a packet without a Message-Authenticator stays as it is
pub with_value-none : (value : List ℕ) (p : Packet) → HasNoMessageAuthenticator p →
    with_value value p ≡ p
with_value-none value p none =
    ap (λ (all : List Attribute). record p { attributes = all }) (map_none value p.attributes none)

-- the Value of the one that stands between others
pub stands_in_place : (value own : List ℕ) (before after : List Attribute) → seal_count before ≡ 0 →
    seal_count after ≡ 0 →
    attributes_with_value value
    (before ++ record { kind = MESSAGE_AUTHENTICATOR; value = own } ∷ after)
    ≡ before ++ record { kind = MESSAGE_AUTHENTICATOR; value = value } ∷ after
stands_in_place value own before after none_before none_after =
    let one : Attribute = record { kind = MESSAGE_AUTHENTICATOR; value = own } in
    let split : attributes_with_value value (before ++ one ∷ after)
    ≡ attributes_with_value value before ++ attributes_with_value value (one ∷ after) =
    map-append (attribute_with_value value) before (one ∷ after) in
    split ∙ rw (map_none value before none_before, map_none value after none_after) refl

-- ---- whole packets

pub packet_length-with_value : (value : List ℕ) (p : Packet) → length value ≡ 16 →
    HasAtMostOneMessageAuthenticator p → packet_length (with_value value p) ≡ packet_length p
packet_length-with_value value p size h =
    ap (λ n. 20 + n) (length-with_value value p.attributes size (all_sized p h))

pub IsPacket-with_value : (value : List ℕ) (p : Packet) → AreSixteenOctets value →
    HasAtMostOneMessageAuthenticator p → IsPacket p → IsPacket (with_value value p)
IsPacket-with_value value p sixteen h packet =
    let limit = packet.size in
    let same = packet_length-with_value value p sixteen.size h in
    record {
      code = packet.code;
      id = packet.id;
      octets = packet.octets;
      authenticator = packet.authenticator;
      attributes = IsAttribute-with_value value p.attributes sixteen packet.attributes;
      size = omega arith;
    }

-- just one Message-Authenticator of 16 octets stays just one
pub HasOne-with_value : (value : List ℕ) (p : Packet) → length value ≡ 16 →
    HasOneMessageAuthenticator p → HasOneMessageAuthenticator (with_value value p)
HasOne-with_value value p size h =
    let there = first_value-with_value value p.attributes h.one in
    record {
      one = count_of-with_value MESSAGE_AUTHENTICATOR value p.attributes ∙ h.one;
      size = subst FirstIsSized (sym there) size;
    }

-- the first attribute stays a Message-Authenticator
pub StandsFirst-with_value : (value : List ℕ) (p : Packet) → StandsFirst p → StandsFirst (with_value value p)
StandsFirst-with_value value p h = (value, attributes_with_value value h.1, ap (attributes_with_value value) h.2)
