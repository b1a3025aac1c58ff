-- The forwarded packet of an Access-Request: its size, and its one Message-Authenticator.
use Rattle.std.proofs.Common.{◌≡◌, ℕ, zero, suc, ◌+◌, ◌*◌, ◌<◌, ◌≤◌, Bool, true, false, ◌⊎◌, inl, inr, List, [], ◌∷◌, ◌++◌, length, map, subst, refl, sym, ap, ◌∙◌, arith, length-append}
use Rattle.std.specs.Prelude.{if◌then◌else◌, ◌==◌}
use Rattle.std.specs.List.{AllByRecursion}
use Rattle.std.proofs.lemmas.Bool.{cases_Bool, eqb-true, eq-eqb}
use Rattle.roam_wire.specs.Packet.{AreOctets, Attribute, IsAttribute, Packet, IsPacket, attribute_text, attributes_text, packet_length}
use Rattle.roam_wire.specs.Attributes.{has_kind, count_of, without_kind}
use Rattle.roam_wire.specs.declared.attribute_type.TheConstants.{USER_PASSWORD, CHAP_CHALLENGE}
use Rattle.roam_wire.specs.declared.code.TheConstants.{ACCESS_REQUEST}
use Rattle.roam_wire.specs.declared.attribute_type.TheConstants.{MESSAGE_AUTHENTICATOR}
use Rattle.roam_crypto.specs.MessageAuthenticator.{HasOneMessageAuthenticator, HasAtMostOneMessageAuthenticator, empty_message_authenticator, with_message_authenticator}
use Rattle.roam_wire.proofs.OctetLemmas.{AreOctets-zeros}
use Rattle.roam_crypto.specs.Authenticators.{AreSixteenOctets}
use Rattle.roam_crypto.proofs.ValueLemmas.{IsSized, all_sized, count_of-yes, count_of-no}
use Rattle.roam_crypto.proofs.SealingLemmas.{count_of-append, length-attributes_text-append}
use Rattle.roam_crypto.specs.Hiding.{Key, HasWholeBlocks, hidden_anew}
use Rattle.roam_crypto.proofs.HidingLemmas.{hidden_anew_hides}
use Rattle.roam_crypto.proofs.OctetLemmas.{AreOctets-hidden_anew}
use Rattle.roam_forward.specs.Forwarded.{Forwarding, with_password_anew, challenge_is_authenticator, added_challenge, access_attributes, access_growth, forwarded, forwarded_length, HasPasswordBlocks}
use Rattle.roam_forward.proofs.ForwardedLemmas.{with_ticket, length-with_ticket, IsAttribute-with_ticket, count_of-with_ticket}

-- ---- each User-Password hidden anew

-- what is hidden anew has as many octets
length-anew : (b : Bool) (from to : Key) (old : List ℕ) → (b ≡ true → HasWholeBlocks old) →
    length (if b then hidden_anew from to old else old) ≡ length old
length-anew true from to old h =
    let anew = hidden_anew_hides from to old (h refl).whole_blocks in
    anew.2.same_size ∙ sym anew.1.same_size
length-anew false from to old h = refl

length-value : (f : Forwarding) (q : Packet) (a : Attribute) → HasPasswordBlocks a →
    length (with_password_anew f q a).value ≡ length a.value
length-value f q a h =
    let from : Key = record { secret = f.from_secret; first = q.authenticator } in
    let to : Key = record { secret = f.to_secret; first = f.authenticator } in
    length-anew (a.kind == USER_PASSWORD) from to a.value
    (λ found. h.whole_blocks (eqb-true a.kind USER_PASSWORD found))

AreOctets-anew : (b : Bool) (from to : Key) (old : List ℕ) → AreOctets old →
    AreOctets (if b then hidden_anew from to old else old)
AreOctets-anew true from to old h = AreOctets-hidden_anew from to old h
AreOctets-anew false from to old h = h

AreOctets-value : (f : Forwarding) (q : Packet) (a : Attribute) → IsAttribute a →
    AreOctets (with_password_anew f q a).value
AreOctets-value f q a h =
    let from : Key = record { secret = f.from_secret; first = q.authenticator } in
    let to : Key = record { secret = f.to_secret; first = f.authenticator } in
    AreOctets-anew (a.kind == USER_PASSWORD) from to a.value h.octets

-- so the attributes have
pub length-passwords : (f : Forwarding) (q : Packet) (all : List Attribute) → AllByRecursion HasPasswordBlocks all →
    length (attributes_text (map (with_password_anew f q) all)) ≡ length (attributes_text all)
length-passwords f q [] h = refl
length-passwords f q (a ∷ all) h =
    let here = length-value f q a h.0 in
    let others = length-passwords f q all h.1 in
    omega (
      arith,
      here,
      others,
      length-append (attribute_text (with_password_anew f q a))
          (attributes_text (map (with_password_anew f q) all)),
      length-append (attribute_text a) (attributes_text all),
    )

-- and each stays short
IsAttribute-passwords : (f : Forwarding) (q : Packet) (all : List Attribute) → AllByRecursion HasPasswordBlocks all →
    AllByRecursion IsAttribute all → AllByRecursion IsAttribute (map (with_password_anew f q) all)
IsAttribute-passwords f q [] blocks h = tt
IsAttribute-passwords f q (a ∷ all) blocks h =
    let limit = h.0.size in
    let here = length-value f q a blocks.0 in (
      record { kind = h.0.kind; octets = AreOctets-value f q a h.0; size = omega (arith, limit, here) },
      IsAttribute-passwords f q all blocks.1 h.1,
    )

-- ---- without Message-Authenticators

pub without-yes : (a : Attribute) (all : List Attribute) → has_kind MESSAGE_AUTHENTICATOR a ≡ true →
    without_kind MESSAGE_AUTHENTICATOR (a ∷ all) ≡ without_kind MESSAGE_AUTHENTICATOR all
without-yes a all seal = rw seal refl

pub without-no : (a : Attribute) (all : List Attribute) → has_kind MESSAGE_AUTHENTICATOR a ≡ false →
    without_kind MESSAGE_AUTHENTICATOR (a ∷ all) ≡ a ∷ without_kind MESSAGE_AUTHENTICATOR all
without-no a all other = rw other refl

-- what holds of all holds of those that are left
pub all_without : (P : Attribute → Type 0) (all : List Attribute) → AllByRecursion P all →
    AllByRecursion P (without_kind MESSAGE_AUTHENTICATOR all)
all_without P [] h = tt
all_without P (a ∷ all) h =
    elim (cases_Bool (has_kind MESSAGE_AUTHENTICATOR a)) [
      | inl seal ↦ subst (AllByRecursion P) (sym (without-yes a all seal)) (all_without P all h.1)
      | inr other ↦ subst (AllByRecursion P) (sym (without-no a all other)) (h.0, all_without P all h.1)
    ]

-- each that is left out has 18 octets
length-without : (all : List Attribute) → AllByRecursion IsSized all →
    length (attributes_text (without_kind MESSAGE_AUTHENTICATOR all)) + 18 * count_of MESSAGE_AUTHENTICATOR all
    ≡ length (attributes_text all)
length-without [] h = refl
length-without (a ∷ all) h =
    let others = length-without all h.1 in
    let rest : List Attribute = without_kind MESSAGE_AUTHENTICATOR all in
    elim (cases_Bool (has_kind MESSAGE_AUTHENTICATOR a)) [
      | inl seal ↦
          let here : length a.value ≡ 16 = h.0.size seal in
          let left = ap (λ (l : List Attribute). length (attributes_text l)) (without-yes a all seal) in
          omega (
            arith,
            others,
            here,
            left,
            count_of-yes MESSAGE_AUTHENTICATOR a all seal,
            length-append (attribute_text a) (attributes_text all),
          )
      | inr other ↦
          let left = ap (λ (l : List Attribute). length (attributes_text l)) (without-no a all other) in
          omega (
            arith,
            others,
            left,
            count_of-no MESSAGE_AUTHENTICATOR a all other,
            length-append (attribute_text a) (attributes_text all),
            length-append (attribute_text a) (attributes_text rest),
          )
    ]

-- none is left
pub count_of-carried : (f : Forwarding) (q : Packet) (all : List Attribute) →
    count_of MESSAGE_AUTHENTICATOR (map (with_password_anew f q) (without_kind MESSAGE_AUTHENTICATOR all)) ≡ 0
count_of-carried f q [] = refl
count_of-carried f q (a ∷ all) =
    let rest : List Attribute = map (with_password_anew f q) (without_kind MESSAGE_AUTHENTICATOR all) in
    elim (cases_Bool (has_kind MESSAGE_AUTHENTICATOR a)) [
      | inl seal ↦
          ap (λ (l : List Attribute). count_of MESSAGE_AUTHENTICATOR (map (with_password_anew f q) l))
          (without-yes a all seal)
          ∙ count_of-carried f q all
      | inr other ↦
          ap (λ (l : List Attribute). count_of MESSAGE_AUTHENTICATOR (map (with_password_anew f q) l))
          (without-no a all other)
          ∙ count_of-no MESSAGE_AUTHENTICATOR (with_password_anew f q a) rest other
          ∙ count_of-carried f q all
    ]

-- ---- the CHAP-Challenge that is added

abbrev challenge_if : Bool → List ℕ → List Attribute
challenge_if b value = if b then record { kind = CHAP_CHALLENGE; value = value } ∷ [] else []

pub length-challenge : (b : Bool) (value : List ℕ) → length value ≡ 16 →
    length (attributes_text (challenge_if b value)) ≡ (if b then 18 else 0)
length-challenge true value size =
    omega (arith, size, length-append (attribute_text (record { kind = CHAP_CHALLENGE; value = value })) [])
length-challenge false value size = refl

pub count_of-challenge : (b : Bool) (value : List ℕ) → count_of MESSAGE_AUTHENTICATOR (challenge_if b value) ≡ 0
count_of-challenge true value = refl
count_of-challenge false value = refl

pub IsAttribute-challenge : (b : Bool) (value : List ℕ) → AreOctets value → length value ≡ 16 →
    AllByRecursion IsAttribute (challenge_if b value)
IsAttribute-challenge true value octets size =
    (record { kind = omega arith; octets = octets; size = omega (arith, size) }, tt)
IsAttribute-challenge false value octets size = tt

-- ---- all attributes

pub AllByRecursion-append : (P : Attribute → Type 0) (xs ys : List Attribute) → AllByRecursion P xs →
    AllByRecursion P ys → AllByRecursion P (xs ++ ys)
AllByRecursion-append P [] ys h k = k
AllByRecursion-append P (x ∷ xs) ys h k = (h.0, AllByRecursion-append P xs ys h.1 k)

-- 18 octets come for a Message-Authenticator where there was none
seal_growth : (n others all : ℕ) → (n ≡ 0) ⊎ (n ≡ 1) → others + 18 * n ≡ all →
    18 + others ≡ all + (if n == 0 then 18 else 0)
seal_growth zero others all h is = omega (arith, is)
seal_growth (suc zero) others all h is = omega (arith, is)
seal_growth (suc (suc n)) others all h is =
    elim h [
      | inl none ↦ absurd (omega arith)
      | inr one ↦ absurd (omega arith)
    ]

pub zero_or_one : (q : Packet) → HasAtMostOneMessageAuthenticator q →
    (count_of MESSAGE_AUTHENTICATOR q.attributes ≡ 0) ⊎ (count_of MESSAGE_AUTHENTICATOR q.attributes ≡ 1)
zero_or_one q h =
    elim h [
      | inl none ↦ inl none
      | inr one ↦ inr one.one
    ]

-- an Access-Request that can be forwarded
pub record IsForwardableAccess (q : Packet) : Type 0 where
  pub packet : IsPacket q
  pub seal : HasAtMostOneMessageAuthenticator q
  pub passwords : AllByRecursion HasPasswordBlocks q.attributes

-- its attributes grow as it is stated
pub length-access : (f : Forwarding) (q : Packet) → IsForwardableAccess q →
    length (attributes_text (access_attributes f q)) ≡ length (attributes_text q.attributes) + access_growth q
length-access f q h =
    let own : List Attribute = without_kind MESSAGE_AUTHENTICATOR q.attributes in
    let carried : List Attribute = map (with_password_anew f q) own in
    let b : Bool = challenge_is_authenticator q.attributes in
    let both = length-attributes_text-append (empty_message_authenticator ∷ carried) (added_challenge q) in
    let front = length-append (attribute_text empty_message_authenticator) (attributes_text carried) in
    let anew = length-passwords f q own (all_without HasPasswordBlocks q.attributes h.passwords) in
    let grown = seal_growth (count_of MESSAGE_AUTHENTICATOR q.attributes) (length (attributes_text own))
    (length (attributes_text q.attributes)) (zero_or_one q h.seal)
    (length-without q.attributes (all_sized q h.seal)) in
    let added = length-challenge b q.authenticator h.packet.authenticator in
    omega (arith, both, front, anew, grown, added)

-- the packet before it is sealed
abbrev pub access_unsealed : Forwarding → Packet → Packet
access_unsealed f q = record {
  code = q.code;
  id = f.id;
  authenticator = f.authenticator;
  attributes = with_ticket f (access_attributes f q);
}

pub length-access_unsealed : (f : Forwarding) (q : Packet) → IsForwardableAccess q →
    packet_length (access_unsealed f q) ≡ packet_length q + 10 + access_growth q
length-access_unsealed f q h =
    let all = length-access f q h in
    let ticket = length-with_ticket f (access_attributes f q) in
    omega (arith, all, ticket)

pub IsPacket-access_unsealed : (f : Forwarding) (q : Packet) → IsForwardableAccess q → f.id < 256 →
    AreSixteenOctets f.authenticator → packet_length q + 10 + access_growth q ≤ 4096 → IsPacket (access_unsealed f q)
IsPacket-access_unsealed f q h id sixteen limit =
    let own : List Attribute = without_kind MESSAGE_AUTHENTICATOR q.attributes in
    let carried : List Attribute = map (with_password_anew f q) own in
    let b : Bool = challenge_is_authenticator q.attributes in
    let blocks = all_without HasPasswordBlocks q.attributes h.passwords in
    let short = IsAttribute-passwords f q own blocks (all_without IsAttribute q.attributes h.packet.attributes) in
    let seal_short : IsAttribute empty_message_authenticator =
    record { kind = omega arith; octets = AreOctets-zeros 16; size = omega arith } in
    let all = AllByRecursion-append IsAttribute (empty_message_authenticator ∷ carried) (added_challenge q)
    (seal_short, short) (IsAttribute-challenge b q.authenticator h.packet.octets h.packet.authenticator) in
    record {
      code = h.packet.code;
      id = id;
      octets = sixteen.octets;
      authenticator = sixteen.size;
      attributes = IsAttribute-with_ticket f (access_attributes f q) all;
      size = omega (arith, length-access_unsealed f q h, limit);
    }

-- it has just one Message-Authenticator, whatever the request had
pub HasOne-access_unsealed : (f : Forwarding) (q : Packet) → HasOneMessageAuthenticator (access_unsealed f q)
HasOne-access_unsealed f q =
    let own : List Attribute = without_kind MESSAGE_AUTHENTICATOR q.attributes in
    let carried : List Attribute = map (with_password_anew f q) own in
    let b : Bool = challenge_is_authenticator q.attributes in
    let ticket = count_of-with_ticket f (access_attributes f q) in
    let both = count_of-append MESSAGE_AUTHENTICATOR (empty_message_authenticator ∷ carried) (added_challenge q) in
    let first = count_of-yes MESSAGE_AUTHENTICATOR empty_message_authenticator carried refl in
    let none = count_of-carried f q q.attributes in
    let challenge = count_of-challenge b q.authenticator in
    record {
      one = omega (arith, ticket, both, first, none, challenge);
      size = refl;
    }

-- ---- sealed

pub forwarded-access : (f : Forwarding) (q : Packet) → q.code ≡ ACCESS_REQUEST →
    forwarded f q ≡ with_message_authenticator f.to_secret f.authenticator (access_unsealed f q)
unfolding forwarded
forwarded-access f q access = rw (eq-eqb q.code ACCESS_REQUEST access) refl

pub forwarded_length-access : (q : Packet) → q.code ≡ ACCESS_REQUEST →
    forwarded_length q ≡ packet_length q + 10 + access_growth q
unfolding forwarded_length
forwarded_length-access q access = rw (eq-eqb q.code ACCESS_REQUEST access) refl
