-- The broker's own answer to an Accounting-Request: its size, and that it is sealed and signed.
use Rattle.std.proofs.Common.{◌≡◌, ℕ, ◌+◌, ◌≤◌, ◌<◌, Bool, true, false, inl, inr, List, [], ◌∷◌, ◌++◌, length, take, drop, refl, sym, ap, ◌∙◌, arith, lit<}
use Rattle.std.specs.Prelude.{nat_lt, if◌then◌else◌}
use Rattle.std.proofs.lemmas.Bool.Decides.{nat_tests}
use Rattle.std.proofs.lemmas.List.{take_at}
use Rattle.roam_wire.specs.Packet.{Attribute, Packet, IsPacket, attributes_text, packet_length, packet_text}
use Rattle.roam_wire.specs.Attributes.{count_of, has_kind, only_kind}
use Rattle.roam_wire.specs.Reading.{packet_of}
use Rattle.roam_wire.specs.declared.attribute_type.TheConstants.{MESSAGE_AUTHENTICATOR, PROXY_STATE}
use Rattle.roam_wire.proofs.KeptLemmas.{length-kept_text}
use Rattle.roam_wire.proofs.PacketLemmas.{ReadsAs-packet_text, length-packet_text, packet_of-packet_text}
use Rattle.roam_crypto.specs.Authenticators.{response_authenticator, signed_reply}
use Rattle.roam_crypto.specs.MessageAuthenticator.{HasAtMostOneMessageAuthenticator, attributes_with_value, empty_message_authenticator, message_authenticator, with_message_authenticator}
use Rattle.roam_crypto.proofs.DigestLemmas.{IsPacket-signed_reply, length-message_authenticator}
use Rattle.roam_crypto.proofs.SealingLemmas.{length-attributes_text-append}
use Rattle.roam_crypto.proofs.SealLemmas.{IsWellSealed-sealed, IsWellSealed-with_authenticator}
use Rattle.roam_crypto.proofs.SignedLemmas.{IsPacket-sealed}
use Rattle.roam_crypto.proofs.ValueLemmas.{packet_length-with_value}
use Rattle.roam_admission.specs.LocalAnswer.{accounting_answer, answering_seal, unsealed_accounting_answer}
use Rattle.roam_admission.specs.AccountingLaws.{AccountingAnswerHasCode, AccountingAnswerHasIdentifier, AccountingAnswerIsNoLonger, AccountingAnswerReads, AccountingAnswerIsSigned, AccountingAnswerIsWellSealed, AccountingAnswerCarriesProxyStates}
use Rattle.roam_admission.proofs.AnswerLemmas.{answer_length-is, answer_no_longer, kept_of_states, no_seal_kept, one_seal, states_are_attributes, unsealed_is_packet}

-- the answer before it is sealed, by whether it has a Message-Authenticator
abbrev unsealed_by : Bool → Packet → Packet
unsealed_by sealed request = record {
  code = 5;
  id = request.id;
  authenticator = request.authenticator;
  attributes = (if sealed then empty_message_authenticator ∷ [] else []) ++ only_kind PROXY_STATE request.attributes;
}

abbrev has_one : Packet → Bool
has_one request = nat_lt 0 (count_of MESSAGE_AUTHENTICATOR request.attributes)

-- it has at most one
one_by : (sealed : Bool) (request : Packet) → HasAtMostOneMessageAuthenticator (unsealed_by sealed request)
one_by true request = inr (one_seal 5 request)
one_by false request = inl (no_seal_kept request.attributes)

-- it is no longer than the request
no_longer_by : (sealed : Bool) (request : Packet) → has_one request ≡ sealed →
    HasAtMostOneMessageAuthenticator request → packet_length (unsealed_by sealed request) ≤ packet_length request
no_longer_by true request is h =
    elim h [
      | inl none ↦ absurd (grind (arith, nat_tests, is, none))
      | inr one ↦ omega (arith, answer_length-is 5 request, answer_no_longer request one)
    ]
no_longer_by false request is h = omega (arith, length-kept_text (has_kind PROXY_STATE) request.attributes)

packet_by : (sealed : Bool) (request : Packet) → IsPacket request →
    packet_length (unsealed_by sealed request) ≤ 4096 → IsPacket (unsealed_by sealed request)
packet_by true request packet short =
    unsealed_is_packet 5 request (lit< tt) packet (omega (arith, short, answer_length-is 5 request))
packet_by false request packet short = record {
  code = lit< tt;
  id = packet.id;
  octets = packet.octets;
  authenticator = packet.authenticator;
  attributes = states_are_attributes request.attributes packet.attributes;
  size = short;
}

-- ---- what the calls cite

pub accounting_at_most_one : (request : Packet) → HasAtMostOneMessageAuthenticator (unsealed_accounting_answer request)
accounting_at_most_one request = one_by (has_one request) request

pub accounting_no_longer : (request : Packet) → HasAtMostOneMessageAuthenticator request →
    packet_length (unsealed_accounting_answer request) ≤ packet_length request
accounting_no_longer request h = no_longer_by (has_one request) request refl h

pub accounting_is_packet : (request : Packet) → HasAtMostOneMessageAuthenticator request → IsPacket request →
    IsPacket (unsealed_accounting_answer request)
accounting_is_packet request h packet =
    let limit = packet.size in
    packet_by (has_one request) request packet (omega (arith, limit, accounting_no_longer request h))

-- the sum of its parts
pub length_accounting : (request : Packet) → packet_length (unsealed_accounting_answer request)
    ≡ 20 + length (attributes_text (answering_seal request))
    + length (attributes_text (only_kind PROXY_STATE request.attributes))
length_accounting request =
    omega (
      arith,
      length-attributes_text-append (answering_seal request) (only_kind PROXY_STATE request.attributes),
    )

sealed_accounting : (secret : List ℕ) (request : Packet) → HasAtMostOneMessageAuthenticator request →
    IsPacket request → IsPacket (accounting_answer secret request)
unfolding accounting_answer
sealed_accounting secret request h packet =
    IsPacket-signed_reply secret request.authenticator
    (with_message_authenticator secret request.authenticator (unsealed_accounting_answer request))
    (IsPacket-sealed secret request.authenticator (unsealed_accounting_answer request) (accounting_at_most_one request)
    (accounting_is_packet request h packet))

accounting_length : (secret : List ℕ) (request : Packet) →
    packet_length (accounting_answer secret request) ≡ packet_length (unsealed_accounting_answer request)
unfolding accounting_answer
accounting_length secret request =
    packet_length-with_value (message_authenticator secret request.authenticator (unsealed_accounting_answer request))
    (unsealed_accounting_answer request)
    (length-message_authenticator secret request.authenticator (unsealed_accounting_answer request))
    (accounting_at_most_one request)

-- the octets that were sealed and signed are the answer's
pub accounting_text : (secret authenticator slice octets : List ℕ) (request : Packet) →
    IsPacket (unsealed_accounting_answer request) → authenticator ≡ request.authenticator →
    slice ≡ packet_text (unsealed_accounting_answer request) →
    octets ≡ packet_text (signed_reply secret authenticator (with_message_authenticator secret authenticator
    (packet_of slice))) → octets ≡ packet_text (accounting_answer secret request)
unfolding accounting_answer
accounting_text secret authenticator slice octets request packet same text sealed =
    let q : Packet = unsealed_accounting_answer request in
    let p : packet_of slice ≡ q = ap packet_of text ∙ packet_of-packet_text q packet in
    sealed
    ∙ ap (λ (x : Packet). packet_text
    (signed_reply secret authenticator (with_message_authenticator secret authenticator x))) p
    ∙ ap (λ (a : List ℕ). packet_text (signed_reply secret a (with_message_authenticator secret a q))) same

-- and they take the whole list
pub accounting_octets : (secret given items octets : List ℕ) (size : ℕ) (request : Packet) →
    HasAtMostOneMessageAuthenticator request → IsPacket request → size ≡ length items →
    items ≡ packet_text (unsealed_accounting_answer request) → octets ≡ packet_text (accounting_answer secret request) →
    given ≡ take size (octets ++ drop (length octets) items) → given ≡ packet_text (accounting_answer secret request)
accounting_octets secret given items octets size request one packet count text is taken =
    let after = length-packet_text (accounting_answer secret request) (sealed_accounting secret request one packet) in
    let before = length-packet_text (unsealed_accounting_answer request) (accounting_is_packet request one packet) in
    let same = accounting_length secret request in
    let whole : length octets ≡ size = ap length is ∙ after ∙ same ∙ sym before ∙ sym (ap length text) ∙ sym count in
    taken ∙ take_at octets (drop (length octets) items) size whole ∙ is

-- ---- laws

pub accounting_has_code : AccountingAnswerHasCode
unfolding accounting_answer
accounting_has_code secret request = refl

pub accounting_has_identifier : AccountingAnswerHasIdentifier
unfolding accounting_answer
accounting_has_identifier secret request = refl

pub accounting_is_no_longer : AccountingAnswerIsNoLonger
accounting_is_no_longer secret request h =
    omega (arith, accounting_length secret request, accounting_no_longer request h)

pub accounting_reads : AccountingAnswerReads
accounting_reads secret request packet h =
    ReadsAs-packet_text (accounting_answer secret request) (sealed_accounting secret request h packet)

pub accounting_is_signed : AccountingAnswerIsSigned
unfolding accounting_answer response_authenticator
accounting_is_signed secret request = refl

pub accounting_is_well_sealed : AccountingAnswerIsWellSealed
unfolding accounting_answer
accounting_is_well_sealed secret request =
    let p : Packet = unsealed_accounting_answer request in
    let sealed : Packet = with_message_authenticator secret request.authenticator p in
    IsWellSealed-with_authenticator secret (request.authenticator ∷ [])
    (response_authenticator secret request.authenticator sealed) sealed
    (IsWellSealed-sealed secret request.authenticator p (accounting_at_most_one request))

-- another Value in the Message-Authenticator leaves the Proxy-States
states_by : (sealed : Bool) (value : List ℕ) (all : List Attribute) →
    only_kind PROXY_STATE (attributes_with_value value
    ((if sealed then empty_message_authenticator ∷ [] else []) ++ only_kind PROXY_STATE all))
    ≡ only_kind PROXY_STATE all
states_by true value all = kept_of_states value all
states_by false value all = kept_of_states value all

pub accounting_carries_proxy_states : AccountingAnswerCarriesProxyStates
unfolding accounting_answer
accounting_carries_proxy_states secret request =
    states_by (has_one request)
    (message_authenticator secret request.authenticator (unsealed_accounting_answer request)) request.attributes
