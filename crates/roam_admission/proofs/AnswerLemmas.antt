-- The local answers: how they are filled, sealed and signed.
use Rattle.std.proofs.Common.{◌≡◌, ◌⊎◌, ◌↔◌, ℕ, ◌+◌, ◌≤◌, ◌<◌, true, false, inl, inr, List, [], ◌∷◌, ◌++◌, length, take, drop, refl, sym, ap, ◌∙◌, arith, length-append, lit<, lit≤}
use Rattle.std.specs.List.{AllByRecursion}
use Rattle.std.proofs.lemmas.Bool.{cases_Bool, eqb-true}
use Rattle.std.specs.Prelude.{if◌then◌else◌, Result, Ok, Err, IfErr, IsErrOf}
use Rattle.std.proofs.lemmas.Bool.Decides.{nat_tests}
use Rattle.std.proofs.lemmas.List.{take_at}
use Rattle.std.proofs.lemmas.List.Sums.{sum_by-cons}
use Rattle.roam_wire.specs.Packet.{Attribute, IsAttribute, Packet, IsPacket, attribute_text, attributes_text, packet_length, packet_text}
use Rattle.roam_wire.specs.Reading.{ReadsAs, packet_of}
use Rattle.roam_wire.specs.Attributes.{has_kind, count_of, only_kind}
use Rattle.roam_wire.specs.declared.refusal.Refusal.{Refusal}
use Rattle.roam_wire.specs.declared.refusal.Refusal.TheVariants as refusal
use Rattle.roam_crypto.specs.Deciding.{is_well_sealed}
use Rattle.roam_crypto.proofs.DecidingLemmas.{well_sealed_decided}
use Rattle.roam_admission.specs.Admission.{has_seal}
use Rattle.roam_wire.specs.declared.attribute_type.TheConstants.{MESSAGE_AUTHENTICATOR, PROXY_STATE}
use Rattle.roam_wire.proofs.KeptLemmas.{length-kept_text}
use Rattle.roam_wire.proofs.OctetLemmas.{AreOctets-zeros}
use Rattle.roam_wire.proofs.PacketLemmas.{length-packet_text, packet_of-packet_text, ReadsAs-packet_text}
use Rattle.roam_crypto.specs.Authenticators.{IsSignedReply, signed_reply, response_authenticator}
use Rattle.roam_crypto.specs.MessageAuthenticator.{IsWellSealed, StandsFirst, empty_message_authenticator, HasOneMessageAuthenticator, message_authenticator, with_message_authenticator, attributes_with_value}
use Rattle.roam_crypto.proofs.DigestLemmas.{IsPacket-signed_reply, length-message_authenticator}
use Rattle.roam_crypto.proofs.SignedLemmas.{IsPacket-sealed}
use Rattle.roam_crypto.proofs.SealLemmas.{IsWellSealed-sealed, IsWellSealed-with_authenticator}
use Rattle.roam_crypto.proofs.ValueLemmas.{IsSized, all_sized, count_of-no, packet_length-with_value}
use Rattle.roam_crypto.proofs.SealingLemmas.{length-attributes_text-append}
use Rattle.roam_admission.specs.LocalAnswer.{local_answer, answer_length, unsealed_answer, status_code}
use Rattle.roam_conf.specs.declared.place.Place.{Place}
use Rattle.roam_conf.specs.declared.place.Place.TheVariants as place
use Rattle.roam_admission.specs.StatusLaws.{StatusAnswerAtAcct, StatusAnswerAtAuth, StatusAnswerCarriesProxyStates, StatusAnswerHasIdentifier, StatusAnswerHasSealFirst, StatusAnswerIsNoLonger, StatusAnswerIsSigned, StatusAnswerIsWellSealed, StatusAnswerReads}
use Rattle.roam_admission.specs.RejectLaws.{RejectReads, RejectHasLength, RejectIsSigned, RejectIsWellSealed, RejectHasSealFirst, RejectCarriesProxyStates}

-- ---- the size of the Proxy-States

first_kept : (a : Attribute) (rest : List Attribute) → has_kind PROXY_STATE a ≡ true →
    only_kind PROXY_STATE (a ∷ rest) ≡ a ∷ only_kind PROXY_STATE rest
first_kept a rest passes = rw passes refl

-- the size of the whole
pub answer_length-is : (code : ℕ) (request : Packet) →
    packet_length (unsealed_answer code request) ≡ answer_length request
answer_length-is code request = omega arith

-- ---- the packet as it is filled

-- a packet with more attributes behind its own
abbrev pub extended : List Attribute → Packet → Packet
extended more p = record p { attributes = p.attributes ++ more }

-- the packet so far, with the Proxy-States that are left, is the whole; and those left are attributes
pub record IsFilling (code : ℕ) (request : Packet) (left : List Attribute) (packet : Packet) : Type 0 where
  pub whole : extended (only_kind PROXY_STATE left) packet ≡ unsealed_answer code request
  pub short : AllByRecursion IsAttribute left

-- the packet with one Proxy-State more is no longer than the whole
pub IsFilling-within : (code : ℕ) (request packet : Packet) (left rest : List Attribute) (a : Attribute) →
    left ≡ a ∷ rest → has_kind PROXY_STATE a ≡ true → IsFilling code request left packet →
    packet_length packet + 2 + length a.value ≤ answer_length request
IsFilling-within code request packet left rest a split passes h =
    let here : only_kind PROXY_STATE left ≡ a ∷ only_kind PROXY_STATE rest = ap (only_kind PROXY_STATE) split
    ∙ first_kept a rest passes in
    let whole : packet_length (extended (only_kind PROXY_STATE left) packet) ≡ answer_length request =
    ap packet_length h.whole ∙ answer_length-is code request in
    let parts = length-attributes_text-append packet.attributes (only_kind PROXY_STATE left) in
    let first = length-append (attribute_text a) (attributes_text (only_kind PROXY_STATE rest)) in
    omega (arith, whole, parts, first, ap (λ x. length (attributes_text x)) here)

-- ---- the seal and the signature

is_no_seal : (a : Attribute) → has_kind PROXY_STATE a ≡ true → has_kind MESSAGE_AUTHENTICATOR a ≡ false
is_no_seal a found = rw (eqb-true a.kind PROXY_STATE found) refl

no_state : (a : Attribute) → has_kind MESSAGE_AUTHENTICATOR a ≡ true → has_kind PROXY_STATE a ≡ false
no_state a found = rw (eqb-true a.kind MESSAGE_AUTHENTICATOR found) refl

-- no Message-Authenticator is among the Proxy-States
pub no_seal_kept : (all : List Attribute) → count_of MESSAGE_AUTHENTICATOR (only_kind PROXY_STATE all) ≡ 0
no_seal_kept [] = refl
no_seal_kept (a ∷ all) =
    let rest = no_seal_kept all in
    elim (cases_Bool (has_kind PROXY_STATE a)) [
      | inl found ↦ rw found (count_of-no MESSAGE_AUTHENTICATOR a (only_kind PROXY_STATE all) (is_no_seal a found)
          ∙ rest)
      | inr further ↦ rw further rest
    ]

pub one_seal : (code : ℕ) (request : Packet) → HasOneMessageAuthenticator (unsealed_answer code request)
one_seal code request = record {
  one = sum_by-cons (λ (x : Attribute). if has_kind MESSAGE_AUTHENTICATOR x then 1 else 0)
      empty_message_authenticator (only_kind PROXY_STATE request.attributes)
      ∙ ap (λ n. 1 + n) (no_seal_kept request.attributes);
  size = refl;
}

-- ---- laws, of each local answer

pub answer_is_packet : (code : ℕ) (secret : List ℕ) (request : Packet) → IsPacket (unsealed_answer code request) →
    IsPacket (local_answer code secret request)
unfolding local_answer
answer_is_packet code secret request packet =
    IsPacket-signed_reply secret request.authenticator
    (with_message_authenticator secret request.authenticator (unsealed_answer code request))
    (IsPacket-sealed secret request.authenticator (unsealed_answer code request) (inr (one_seal code request)) packet)

pub states_are_attributes : (all : List Attribute) → AllByRecursion IsAttribute all →
    AllByRecursion IsAttribute (only_kind PROXY_STATE all)
states_are_attributes [] h = tt
states_are_attributes (a ∷ all) h =
    elim (cases_Bool (has_kind PROXY_STATE a)) [
      | inl kept ↦ rw kept (h.0, states_are_attributes all h.1)
      | inr dropped ↦ rw dropped (states_are_attributes all h.1)
    ]

IsAttribute-empty : IsAttribute empty_message_authenticator
IsAttribute-empty = record { kind = lit< tt; octets = AreOctets-zeros 16; size = lit≤ tt }

pub unsealed_is_packet : (code : ℕ) (request : Packet) → code < 256 → IsPacket request → answer_length request ≤ 4096
    → IsPacket (unsealed_answer code request)
unsealed_is_packet code request octet packet short = record {
  code = octet;
  id = packet.id;
  octets = packet.octets;
  authenticator = packet.authenticator;
  attributes = (IsAttribute-empty, states_are_attributes request.attributes packet.attributes);
  size = omega (arith, short, answer_length-is code request);
}

answer_reads : (code : ℕ) (secret : List ℕ) (request : Packet) → code < 256 → IsPacket request →
    answer_length request ≤ 4096 → ReadsAs (packet_text (local_answer code secret request))
    (local_answer code secret request)
answer_reads code secret request octet packet short =
    ReadsAs-packet_text (local_answer code secret request)
    (answer_is_packet code secret request (unsealed_is_packet code request octet packet short))

pub answer_has_length : (code : ℕ) (secret : List ℕ) (request : Packet) →
    packet_length (local_answer code secret request) ≡ answer_length request
unfolding local_answer
answer_has_length code secret request =
    packet_length-with_value (message_authenticator secret request.authenticator (unsealed_answer code request))
    (unsealed_answer code request)
    (length-message_authenticator secret request.authenticator (unsealed_answer code request))
    (inr (one_seal code request))
    ∙ answer_length-is code request

answer_is_signed : (code : ℕ) (secret : List ℕ) (request : Packet) →
    IsSignedReply secret request.authenticator (local_answer code secret request)
unfolding local_answer response_authenticator
answer_is_signed code secret request = refl

answer_is_well_sealed : (code : ℕ) (secret : List ℕ) (request : Packet) →
    IsWellSealed secret (request.authenticator ∷ []) (local_answer code secret request)
unfolding local_answer
answer_is_well_sealed code secret request =
    let p : Packet = unsealed_answer code request in
    let sealed : Packet = with_message_authenticator secret request.authenticator p in
    IsWellSealed-with_authenticator secret (request.authenticator ∷ [])
    (response_authenticator secret request.authenticator sealed) sealed
    (IsWellSealed-sealed secret request.authenticator p (inr (one_seal code request)))

answer_has_seal_first : (code : ℕ) (secret : List ℕ) (request : Packet) → StandsFirst (local_answer code secret request)
unfolding local_answer
answer_has_seal_first code secret request = (
  message_authenticator secret request.authenticator (unsealed_answer code request),
  attributes_with_value (message_authenticator secret request.authenticator (unsealed_answer code request))
      (only_kind PROXY_STATE request.attributes),
  refl,
)

-- Proxy-States stay as they are where another Value is put into Message-Authenticators, and they alone are kept of
-- them
pub kept_of_states : (value : List ℕ) (all : List Attribute) →
    only_kind PROXY_STATE (attributes_with_value value (only_kind PROXY_STATE all)) ≡ only_kind PROXY_STATE all
kept_of_states value [] = refl
kept_of_states value (a ∷ all) =
    let rest = kept_of_states value all in
    elim (cases_Bool (has_kind PROXY_STATE a)) [
      | inl found ↦ rw (found, is_no_seal a found, found) (ap (λ x. a ∷ x) rest)
      | inr further ↦ rw further rest
    ]

answer_carries_proxy_states : (code : ℕ) (secret : List ℕ) (request : Packet) →
    only_kind PROXY_STATE (local_answer code secret request).attributes ≡ only_kind PROXY_STATE request.attributes
unfolding local_answer
answer_carries_proxy_states code secret request =
    kept_of_states (message_authenticator secret request.authenticator (unsealed_answer code request))
    request.attributes

-- ---- of the local reject

pub reject_reads : RejectReads
reject_reads secret request packet short = answer_reads 3 secret request (lit< tt) packet short

pub reject_has_length : RejectHasLength
reject_has_length secret request = answer_has_length 3 secret request

pub reject_is_signed : RejectIsSigned
reject_is_signed secret request = answer_is_signed 3 secret request

pub reject_is_well_sealed : RejectIsWellSealed
reject_is_well_sealed secret request = answer_is_well_sealed 3 secret request

pub reject_has_seal_first : RejectHasSealFirst
reject_has_seal_first secret request = answer_has_seal_first 3 secret request

pub reject_carries_proxy_states : RejectCarriesProxyStates
reject_carries_proxy_states secret request = answer_carries_proxy_states 3 secret request

-- ---- of the answer to a Status-Server

pub status_at_auth : StatusAnswerAtAuth
unfolding local_answer
status_at_auth nth secret request = refl

pub status_at_acct : StatusAnswerAtAcct
unfolding local_answer
status_at_acct nth secret request = refl

pub status_has_identifier : StatusAnswerHasIdentifier
unfolding local_answer
status_has_identifier at secret request = refl

status_code_is_octet : (at : Place) → status_code at < 256
status_code_is_octet (place.Auth nth) = lit< tt
status_code_is_octet (place.Acct nth) = lit< tt
status_code_is_octet (place.Out realm nth) = lit< tt
status_code_is_octet (place.Reverse realm nth) = lit< tt

-- a Message-Authenticator of 16 octets and the Proxy-States are no longer than all attributes
room_for_seal : (all : List Attribute) → AllByRecursion IsSized all → 0 < count_of MESSAGE_AUTHENTICATOR all →
    18 + length (attributes_text (only_kind PROXY_STATE all)) ≤ length (attributes_text all)
room_for_seal [] sized some = absurd (omega (arith, some))
room_for_seal (a ∷ all) sized some =
    let whole = length-append (attribute_text a) (attributes_text all) in
    let kept = length-append (attribute_text a) (attributes_text (only_kind PROXY_STATE all)) in
    elim (cases_Bool (has_kind MESSAGE_AUTHENTICATOR a)) [
      | inl seal ↦
          let size : length a.value ≡ 16 = sized.0.size seal in
          let fewer = length-kept_text (has_kind PROXY_STATE) all in
          rw (no_state a seal) (omega (arith, whole, size, fewer))
      | inr other ↦
          let later : 0 < count_of MESSAGE_AUTHENTICATOR all =
          rw (count_of-no MESSAGE_AUTHENTICATOR a all other) at some in
          let rest = room_for_seal all sized.1 later in
          elim (cases_Bool (has_kind PROXY_STATE a)) [
            | inl state ↦ rw state (omega (arith, whole, kept, rest))
            | inr none ↦ rw none (omega (arith, whole, rest))
          ]
    ]

pub answer_no_longer : (request : Packet) → HasOneMessageAuthenticator request →
    answer_length request ≤ packet_length request
answer_no_longer request one =
    let room = room_for_seal request.attributes (all_sized request (inr one)) (omega (arith, one.one)) in
    omega (arith, room)

pub status_is_no_longer : StatusAnswerIsNoLonger
status_is_no_longer at secret request one =
    let same = answer_has_length (status_code at) secret request in
    let room = answer_no_longer request one in
    omega (arith, same, room)

pub status_reads : StatusAnswerReads
status_reads at secret request packet one =
    let room = answer_no_longer request one in
    let limit = packet.size in
    answer_reads (status_code at) secret request (status_code_is_octet at) packet (omega (arith, room, limit))

pub status_is_signed : StatusAnswerIsSigned
status_is_signed at secret request = answer_is_signed (status_code at) secret request

pub status_is_well_sealed : StatusAnswerIsWellSealed
status_is_well_sealed at secret request = answer_is_well_sealed (status_code at) secret request

pub status_has_seal_first : StatusAnswerHasSealFirst
status_has_seal_first at secret request = answer_has_seal_first (status_code at) secret request

pub status_carries_proxy_states : StatusAnswerCarriesProxyStates
status_carries_proxy_states at secret request = answer_carries_proxy_states (status_code at) secret request

-- ---- what the call gives

-- a packet that is well sealed and has a Message-Authenticator has just one
pub sealed_one : (secret authenticator : List ℕ) (p : Packet) → is_well_sealed secret (authenticator ∷ []) p ≡ true →
    has_seal p ≡ true → HasOneMessageAuthenticator p
sealed_one secret authenticator p well has =
    elim ((well_sealed_decided secret (authenticator ∷ []) p).0 well) [
      | inl none ↦ absurd (grind (arith, nat_tests, none, has))
      | inr one ↦ one.0
    ]

-- where an answer isn't too long, it fails for want of memory alone
pub only_memory : {X : Type 0} (r : Result X Refusal) (size : ℕ) →
    IfErr r (λ e. (e ≡ refusal.TooLong) ⊎ (e ≡ refusal.NoMemory)) → (IsErrOf r refusal.TooLong ↔ (4096 < size)) →
    size ≤ 4096 → IfErr r (λ e. e ≡ refusal.NoMemory)
only_memory (Ok x) size causes long short = tt
only_memory (Err why) size causes long short =
    elim causes [
      | inl is ↦ (let over : 4096 < size = long.0 (ap (λ (e : Refusal). Err e) is) in
          absurd (omega (arith, over, short)))
      | inr memory ↦ memory
    ]

-- the octets that were sealed and signed are the answer's
pub answered_text : (code : ℕ) (secret authenticator slice octets : List ℕ) (request : Packet) →
    IsPacket (unsealed_answer code request) → authenticator ≡ request.authenticator →
    slice ≡ packet_text (unsealed_answer code request) →
    octets ≡ packet_text (signed_reply secret authenticator
    (with_message_authenticator secret authenticator (packet_of slice))) →
    octets ≡ packet_text (local_answer code secret request)
unfolding local_answer
answered_text code secret authenticator slice octets request packet same text sealed =
    let p : packet_of slice ≡ unsealed_answer code request = ap packet_of text
    ∙ packet_of-packet_text (unsealed_answer code request) packet in
    sealed
    ∙ ap (λ (q : Packet). packet_text
    (signed_reply secret authenticator (with_message_authenticator secret authenticator q))) p
    ∙ ap (λ (a : List ℕ). packet_text
    (signed_reply secret a (with_message_authenticator secret a (unsealed_answer code request)))) same

-- and they take the whole list
pub answered_octets : (code : ℕ) (secret given items octets : List ℕ) (size : ℕ) (request : Packet) →
    IsPacket (unsealed_answer code request) → size ≡ length items →
    items ≡ packet_text (unsealed_answer code request) → octets ≡ packet_text (local_answer code secret request) →
    given ≡ take size (octets ++ drop (length octets) items) → given ≡ packet_text (local_answer code secret request)
answered_octets code secret given items octets size request packet count text is taken =
    let after = length-packet_text (local_answer code secret request) (answer_is_packet code secret request packet) in
    let before = length-packet_text (unsealed_answer code request) packet in
    let same : packet_length (local_answer code secret request) ≡ packet_length (unsealed_answer code request) =
    answer_has_length code secret request ∙ sym (answer_length-is code request) in
    let whole : length octets ≡ size = ap length is ∙ after ∙ same ∙ sym before ∙ sym (ap length text) ∙ sym count in
    taken ∙ take_at octets (drop (length octets) items) size whole ∙ is
