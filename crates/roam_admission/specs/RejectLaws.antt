-- Laws of the local reject of every request (RFC 2865, section 4.3). Each law is a clause of a function of src/laws.rt.
use Rattle.std.specs.Prelude.{◌≡◌, ◌≤◌, ℕ, List, [], ◌∷◌}
use Rattle.roam_wire.specs.Packet.{Packet, IsPacket, packet_length, packet_text}
use Rattle.roam_wire.specs.Attributes.{only_kind}
use Rattle.roam_wire.specs.Reading.{ReadsAs}
use Rattle.roam_wire.specs.declared.attribute_type.TheConstants.{PROXY_STATE}
use Rattle.roam_wire.specs.declared.packet_size.TheConstants.{MAX_PACKET_LENGTH}
use Rattle.roam_crypto.specs.Authenticators.{IsSignedReply}
use Rattle.roam_crypto.specs.MessageAuthenticator.{IsWellSealed, StandsFirst}
use Rattle.roam_admission.specs.LocalAnswer.{answer_length, local_reject}

-- it is a packet, and its octets read as it (RFC 2865, section 3)
abbrev pub RejectReads : Type 0
RejectReads = (secret : List ℕ) (request : Packet) →
    IsPacket request → answer_length request ≤ MAX_PACKET_LENGTH →
    ReadsAs (packet_text (local_reject secret request)) (local_reject secret request)

-- it has the stated size
abbrev pub RejectHasLength : Type 0
RejectHasLength = (secret : List ℕ) (request : Packet) →
    packet_length (local_reject secret request) ≡ answer_length request

-- it is signed for the request's Authenticator (RFC 2865, section 3)
abbrev pub RejectIsSigned : Type 0
RejectIsSigned = (secret : List ℕ) (request : Packet) →
    IsSignedReply secret request.authenticator (local_reject secret request)

-- and well sealed for it (RFC 3579, section 3.2)
abbrev pub RejectIsWellSealed : Type 0
RejectIsWellSealed = (secret : List ℕ) (request : Packet) →
    IsWellSealed secret (request.authenticator ∷ []) (local_reject secret request)

-- its seal is its first attribute (ours)
abbrev pub RejectHasSealFirst : Type 0
RejectHasSealFirst = (secret : List ℕ) (request : Packet) → StandsFirst (local_reject secret request)

-- it carries the request's Proxy-States, in their order (RFC 2865, section 5.33)
abbrev pub RejectCarriesProxyStates : Type 0
RejectCarriesProxyStates = (secret : List ℕ) (request : Packet) →
    only_kind PROXY_STATE (local_reject secret request).attributes ≡ only_kind PROXY_STATE request.attributes
