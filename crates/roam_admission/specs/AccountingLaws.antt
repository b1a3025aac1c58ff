-- Laws of the proxy's own answer to every Accounting-Request (RFC 2866, section 4.2). Each law is a clause of a
-- function of src/laws.rt.
use Rattle.std.specs.Prelude.{◌≡◌, ◌≤◌, ℕ, List, [], ◌∷◌}
use Rattle.roam_wire.specs.Packet.{Packet, IsPacket, packet_length, packet_text}
use Rattle.roam_wire.specs.Attributes.{only_kind}
use Rattle.roam_wire.specs.Reading.{ReadsAs}
use Rattle.roam_wire.specs.declared.attribute_type.TheConstants.{PROXY_STATE}
use Rattle.roam_crypto.specs.Authenticators.{IsSignedReply}
use Rattle.roam_crypto.specs.MessageAuthenticator.{HasAtMostOneMessageAuthenticator, IsWellSealed}
use Rattle.roam_admission.specs.LocalAnswer.{accounting_answer}

-- it is an Accounting-Response with the request's Identifier (RFC 2866, section 4.2)
abbrev pub AccountingAnswerHasCode : Type 0
AccountingAnswerHasCode = (secret : List ℕ) (request : Packet) → (accounting_answer secret request).code ≡ 5

abbrev pub AccountingAnswerHasIdentifier : Type 0
AccountingAnswerHasIdentifier = (secret : List ℕ) (request : Packet) →
    (accounting_answer secret request).id ≡ request.id

-- it is no longer than a request with at most one Message-Authenticator, and so never past 4096 octets
abbrev pub AccountingAnswerIsNoLonger : Type 0
AccountingAnswerIsNoLonger = (secret : List ℕ) (request : Packet) → HasAtMostOneMessageAuthenticator request →
    packet_length (accounting_answer secret request) ≤ packet_length request

-- it is a packet, and its octets read as it (RFC 2865, section 3)
abbrev pub AccountingAnswerReads : Type 0
AccountingAnswerReads = (secret : List ℕ) (request : Packet) → IsPacket request →
    HasAtMostOneMessageAuthenticator request →
    ReadsAs (packet_text (accounting_answer secret request)) (accounting_answer secret request)

-- it is signed for the request's Authenticator (RFC 2866, section 4.2)
abbrev pub AccountingAnswerIsSigned : Type 0
AccountingAnswerIsSigned = (secret : List ℕ) (request : Packet) →
    IsSignedReply secret request.authenticator (accounting_answer secret request)

-- and well sealed for it, where it has a Message-Authenticator (ours)
abbrev pub AccountingAnswerIsWellSealed : Type 0
AccountingAnswerIsWellSealed = (secret : List ℕ) (request : Packet) →
    IsWellSealed secret (request.authenticator ∷ []) (accounting_answer secret request)

-- it carries the request's Proxy-States, in their order (RFC 2865, section 5.33)
abbrev pub AccountingAnswerCarriesProxyStates : Type 0
AccountingAnswerCarriesProxyStates = (secret : List ℕ) (request : Packet) →
    only_kind PROXY_STATE (accounting_answer secret request).attributes ≡ only_kind PROXY_STATE request.attributes
