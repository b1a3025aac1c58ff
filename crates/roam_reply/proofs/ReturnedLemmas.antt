-- The returned packet: its attributes, its size, its Message-Authenticator.
use Rattle.std.proofs.Common.{◌≡◌, ◌≢◌, ℕ, ◌+◌, ◌<◌, Bool, true, false, inl, inr, List, [], ◌∷◌, ◌++◌, length, filter, Option, Some, refl, sym, ap, subst, ◌∙◌, arith}
use Rattle.std.specs.Prelude.{IsSomeAnd, if◌then◌else◌}
use Rattle.std.specs.List.{AllByRecursion}
use Rattle.std.proofs.lemmas.Bool.{cases_Bool, eqb-true, ne_eqb}
use Rattle.std.proofs.lemmas.List.Sums.{sum_by-cons}
use Rattle.roam_wire.specs.Packet.{Attribute, IsAttribute, Packet, attributes_text, packet_length, packet_text}
use Rattle.roam_crypto.specs.Authenticators.{signed_reply}
use Rattle.roam_wire.specs.Attributes.{has_kind, count_of, first_value, only_kind, without_kind}
use Rattle.roam_wire.specs.declared.attribute_type.TheConstants.{PROXY_STATE}
use Rattle.roam_wire.specs.declared.attribute_type.TheConstants.{MESSAGE_AUTHENTICATOR}
use Rattle.roam_crypto.specs.MessageAuthenticator.{HasAtMostOneMessageAuthenticator, with_message_authenticator}
use Rattle.roam_crypto.proofs.ValueLemmas.{count_of-no}
use Rattle.roam_crypto.proofs.SealingLemmas.{count_of-append, length-attributes_text-append}
use Rattle.roam_wire.specs.Codes.{is_access_reply}
use Rattle.roam_reply.specs.Returned.{Returning, proxy_states, returned_attributes, unsealed_return, returned, returned_length}

-- ---- counts of the attributes that are kept

count_of-cons : (kind : ℕ) (a : Attribute) (all : List Attribute) →
    count_of kind (a ∷ all) ≡ (if has_kind kind a then 1 else 0) + count_of kind all
count_of-cons kind a all = sum_by-cons (λ (x : Attribute). if has_kind kind x then 1 else 0) a all

-- an attribute of one Type is of no other
pub other_kind : (kind other : ℕ) (a : Attribute) → kind ≢ other → has_kind other a ≡ true → has_kind kind a ≡ false
other_kind kind other a apart found = ne_eqb a.kind kind (λ e. apart (sym e ∙ eqb-true a.kind other found))

-- another Type is left out: as many stay
pub count_of-without : (kind other : ℕ) (all : List Attribute) → kind ≢ other →
    count_of kind (without_kind other all) ≡ count_of kind all
count_of-without kind other [] apart = refl
count_of-without kind other (a ∷ all) apart =
    let rest = count_of-without kind other all apart in
    elim (cases_Bool (has_kind other a)) [
      | inl found ↦ rw found (rest ∙ sym (count_of-no kind a all (other_kind kind other a apart found)))
      | inr further ↦
          rw further (count_of-cons kind a (without_kind other all)
          ∙ ap (λ (n : ℕ). (if has_kind kind a then 1 else 0) + n) rest ∙ sym (count_of-cons kind a all))
    ]

-- the Type itself is left out: none stays
pub count_of-without_itself : (kind : ℕ) (all : List Attribute) → count_of kind (without_kind kind all) ≡ 0
count_of-without_itself kind [] = refl
count_of-without_itself kind (a ∷ all) =
    let rest = count_of-without_itself kind all in
    elim (cases_Bool (has_kind kind a)) [
      | inl found ↦ rw found rest
      | inr further ↦ rw further (count_of-no kind a (without_kind kind all) further ∙ rest)
    ]

-- another Type alone is kept: none stays
pub count_of-only : (kind other : ℕ) (all : List Attribute) → kind ≢ other → count_of kind (only_kind other all) ≡ 0
count_of-only kind other [] apart = refl
count_of-only kind other (a ∷ all) apart =
    let rest = count_of-only kind other all apart in
    elim (cases_Bool (has_kind other a)) [
      | inl found ↦ rw found (count_of-no kind a (only_kind other all) (other_kind kind other a apart found) ∙ rest)
      | inr further ↦ rw further rest
    ]

-- ---- first Values

first_value-yes : (kind : ℕ) (a : Attribute) (all : List Attribute) → has_kind kind a ≡ true →
    first_value kind (a ∷ all) ≡ Some a.value
first_value-yes kind a all found = rw found refl

first_value-no : (kind : ℕ) (a : Attribute) (all : List Attribute) → has_kind kind a ≡ false →
    first_value kind (a ∷ all) ≡ first_value kind all
first_value-no kind a all further = rw further refl

-- another Type is left out: the first Value stays
pub first_value-without : (kind other : ℕ) (all : List Attribute) → kind ≢ other →
    first_value kind (without_kind other all) ≡ first_value kind all
first_value-without kind other [] apart = refl
first_value-without kind other (a ∷ all) apart =
    let rest = first_value-without kind other all apart in
    elim (cases_Bool (has_kind other a)) [
      | inl found ↦ rw found (rest ∙ sym (first_value-no kind a all (other_kind kind other a apart found)))
      | inr further ↦ rw further (elim (cases_Bool (has_kind kind a)) [
        | inl here ↦ first_value-yes kind a (without_kind other all) here ∙ sym (first_value-yes kind a all here)
        | inr there ↦ first_value-no kind a (without_kind other all) there ∙ rest
            ∙ sym (first_value-no kind a all there)
      ])
    ]

-- the first Value of two lists in a row is that of the first one, where it has one
pub first_value-append : (kind : ℕ) (xs ys : List Attribute) → 0 < count_of kind xs →
    first_value kind (xs ++ ys) ≡ first_value kind xs
first_value-append kind [] ys some = absurd (omega arith)
first_value-append kind (a ∷ xs) ys some =
    elim (cases_Bool (has_kind kind a)) [
      | inl here ↦ first_value-yes kind a (xs ++ ys) here ∙ sym (first_value-yes kind a xs here)
      | inr there ↦
          let rest : 0 < count_of kind xs = omega (arith, count_of-no kind a xs there) in
          first_value-no kind a (xs ++ ys) there ∙ first_value-append kind xs ys rest
          ∙ sym (first_value-no kind a xs there)
    ]

-- ---- short attributes

pub short_kept : (keep : Attribute → Bool) (all : List Attribute) → AllByRecursion IsAttribute all →
    AllByRecursion IsAttribute (filter keep all)
short_kept keep [] h = tt
short_kept keep (a ∷ all) h =
    elim (cases_Bool (keep a)) [
      | inl kept ↦ rw kept (h.0, short_kept keep all h.1)
      | inr dropped ↦ rw dropped (short_kept keep all h.1)
    ]

pub short_joined : (xs ys : List Attribute) → AllByRecursion IsAttribute xs → AllByRecursion IsAttribute ys →
    AllByRecursion IsAttribute (xs ++ ys)
short_joined [] ys h k = k
short_joined (x ∷ xs) ys h k = (h.0, short_joined xs ys h.1 k)

-- ---- an accounting or reverse reply

-- the reply's attributes without Proxy-States, and the request's Proxy-States
abbrev pub restored : Packet → Packet → Packet
restored reply request = record {
  code = reply.code;
  id = request.id;
  authenticator = request.authenticator;
  attributes = without_kind PROXY_STATE reply.attributes ++ only_kind PROXY_STATE request.attributes;
}

pub carried-others : (r : Returning) (reply request : Packet) → is_access_reply reply.code ≡ false →
    returned_attributes r reply request ≡ without_kind PROXY_STATE reply.attributes
carried-others r reply request other = rw other refl

pub unsealed-others : (r : Returning) (reply request : Packet) → is_access_reply reply.code ≡ false →
    unsealed_return r reply request ≡ restored reply request
unsealed-others r reply request other =
    ap (λ (all : List Attribute). record {
      code = reply.code;
      id = request.id;
      authenticator = request.authenticator;
      attributes = all ++ proxy_states request;
    }) (carried-others r reply request other)

-- its size
packet_length-restored : (reply request : Packet) →
    packet_length (restored reply request)
    ≡ 20 + length (attributes_text (without_kind PROXY_STATE reply.attributes)) + length
    (attributes_text (only_kind PROXY_STATE request.attributes))
packet_length-restored reply request =
    omega (
      arith,
      length-attributes_text-append (without_kind PROXY_STATE reply.attributes)
          (only_kind PROXY_STATE request.attributes),
    )

pub returned_length-others : (r : Returning) (reply request : Packet) → is_access_reply reply.code ≡ false →
    returned_length r reply request
    ≡ 20 + length (attributes_text (without_kind PROXY_STATE reply.attributes)) + length
    (attributes_text (only_kind PROXY_STATE request.attributes))
unfolding returned_length
returned_length-others r reply request other =
    ap packet_length (unsealed-others r reply request other) ∙ packet_length-restored reply request

-- it has as many Message-Authenticators as the reply
count_of-restored : (kind : ℕ) (reply request : Packet) → kind ≢ PROXY_STATE →
    count_of kind (restored reply request).attributes ≡ count_of kind reply.attributes
count_of-restored kind reply request apart =
    omega (
      arith,
      count_of-append kind (without_kind PROXY_STATE reply.attributes)
          (only_kind PROXY_STATE request.attributes),
      count_of-without kind PROXY_STATE reply.attributes apart,
      count_of-only kind PROXY_STATE request.attributes apart,
    )

pub AtMostOne-restored : (reply request : Packet) → HasAtMostOneMessageAuthenticator reply →
    HasAtMostOneMessageAuthenticator (restored reply request)
AtMostOne-restored reply request h =
    let apart : MESSAGE_AUTHENTICATOR ≢ PROXY_STATE = λ e. absurd (omega (arith, e)) in
    let count = count_of-restored MESSAGE_AUTHENTICATOR reply request apart in
    elim h [
      | inl none ↦ inl (count ∙ none)
      | inr one ↦
          let some : 0 < count_of MESSAGE_AUTHENTICATOR (without_kind PROXY_STATE reply.attributes) =
          omega (arith, count_of-without MESSAGE_AUTHENTICATOR PROXY_STATE reply.attributes apart, one.one) in
          let first : first_value MESSAGE_AUTHENTICATOR (restored reply request).attributes
          ≡ first_value MESSAGE_AUTHENTICATOR reply.attributes =
          first_value-append MESSAGE_AUTHENTICATOR (without_kind PROXY_STATE reply.attributes)
          (only_kind PROXY_STATE request.attributes) some
          ∙ first_value-without MESSAGE_AUTHENTICATOR PROXY_STATE reply.attributes apart in
          let sized : Option (List ℕ) → Type 0 = λ value. IsSomeAnd value (λ octets. length octets ≡ 16) in
          inr (record { one = count ∙ one.one; size = subst sized (sym first) one.size })
    ]

pub AtMostOne-others : (r : Returning) (reply request : Packet) → is_access_reply reply.code ≡ false →
    HasAtMostOneMessageAuthenticator reply → HasAtMostOneMessageAuthenticator (unsealed_return r reply request)
AtMostOne-others r reply request other h =
    subst HasAtMostOneMessageAuthenticator (sym (unsealed-others r reply request other))
    (AtMostOne-restored reply request h)

-- ---- a buffer at whose end that packet stands

-- sealed and signed, it is the returned packet
pub returned_text : (r : Returning) (reply request p : Packet) (authenticator : List ℕ) →
    authenticator ≡ request.authenticator → p ≡ unsealed_return r reply request →
    packet_text (signed_reply r.client_secret authenticator
    (with_message_authenticator r.client_secret authenticator p)) ≡ packet_text (returned r reply request)
unfolding returned
returned_text r reply request p authenticator same is =
    ap (λ (a : List ℕ). packet_text
    (signed_reply r.client_secret a (with_message_authenticator r.client_secret a p))) same
    ∙ ap (λ (q : Packet). packet_text
    (signed_reply r.client_secret request.authenticator
    (with_message_authenticator r.client_secret request.authenticator q))) is
