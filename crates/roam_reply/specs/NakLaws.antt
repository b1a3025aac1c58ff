-- Laws of every NAK (RFC 5176, sections 2.3 and 3.5). Each law is a clause of a function of src/laws.rt.
use Rattle.std.specs.Prelude.{◌≡◌, ◌+◌, ◌^◌, ◌<◌, ◌≤◌, ℕ, List, ◌∷◌, Some, length, IsTrue}
use Rattle.std.specs.Int.{w32, from_be_bytes}
use Rattle.roam_wire.specs.Packet.{Packet, IsPacket, packet_length, packet_text}
use Rattle.roam_wire.specs.Reading.{ReadsAs}
use Rattle.roam_wire.specs.Attributes.{count_of, first_value}
use Rattle.roam_wire.specs.Codes.{is_reverse_request}
use Rattle.roam_wire.specs.declared.attribute_type.TheConstants.{ERROR_CAUSE}
use Rattle.roam_crypto.specs.Authenticators.{IsSignedReply}
use Rattle.roam_crypto.specs.MessageAuthenticator.{HasNoMessageAuthenticator}
use Rattle.roam_reply.specs.ReplyCheck.{answers}
use Rattle.roam_reply.specs.Returned.{proxy_states}
use Rattle.roam_reply.specs.Nak.{error_cause, nak, nak_length}

-- a request that was read, and of which the forwarded packet would fit: ten octets more are left
-- (RFC 2865, section 3; the limit is ours)
pub record CanBeRefused (request : Packet) : Type 0 where
  pub packet : IsPacket request
  pub short : packet_length request ≤ 4086

-- its NAK is a packet (RFC 2865, section 3)
abbrev pub NakIsPacket : Type 0
NakIsPacket = (secret : List ℕ) (cause : ℕ) (request : Packet) →
    CanBeRefused request → IsPacket (nak secret cause request)

-- and the NAK's octets read as it
abbrev pub NakReads : Type 0
NakReads = (secret : List ℕ) (cause : ℕ) (request : Packet) →
    CanBeRefused request → ReadsAs (packet_text (nak secret cause request)) (nak secret cause request)

-- it has the stated size
abbrev pub NakHasLength : Type 0
NakHasLength = (secret : List ℕ) (cause : ℕ) (request : Packet) →
    packet_length (nak secret cause request) ≡ nak_length request

-- which is at most the request's and six octets more
abbrev pub NakIsShort : Type 0
NakIsShort = (request : Packet) → nak_length request ≤ packet_length request + 6

-- its code answers the request's (RFC 5176, section 2.3)
abbrev pub NakAnswers : Type 0
NakAnswers = (secret : List ℕ) (cause : ℕ) (request : Packet) →
    IsTrue (is_reverse_request request.code) →
    IsTrue (answers request.code (nak secret cause request).code)

-- and its Identifier is the request's (RFC 2865, section 3)
abbrev pub NakHasIdentifier : Type 0
NakHasIdentifier = (secret : List ℕ) (cause : ℕ) (request : Packet) →
    (nak secret cause request).id ≡ request.id

-- it is signed with the home server's secret for the request's Authenticator (RFC 5176, section
-- 2.3)
abbrev pub NakIsSigned : Type 0
NakIsSigned = (secret : List ℕ) (cause : ℕ) (request : Packet) →
    IsSignedReply secret request.authenticator (nak secret cause request)

-- it has no Message-Authenticator (ours)
abbrev pub NakHasNoSeal : Type 0
NakHasNoSeal = (secret : List ℕ) (cause : ℕ) (request : Packet) →
    HasNoMessageAuthenticator (nak secret cause request)

-- it has one Error-Cause (RFC 5176, section 3.5)
abbrev pub NakHasOneCause : Type 0
NakHasOneCause = (secret : List ℕ) (cause : ℕ) (request : Packet) →
    count_of ERROR_CAUSE (nak secret cause request).attributes ≡ 1

-- of four octets, which are the cause with the high one first
abbrev pub NakTellsCause : Type 0
NakTellsCause = (secret : List ℕ) (cause : ℕ) (request : Packet) → cause < 2 ^ 32 →
    (value : List ℕ) × (length value ≡ 4)
    × (first_value ERROR_CAUSE (nak secret cause request).attributes ≡ Some value)
    × (from_be_bytes w32 value ≡ cause)

-- its Proxy-States are the request's, in their order (RFC 2865, section 5.33)
abbrev pub NakHasProxyStates : Type 0
NakHasProxyStates = (secret : List ℕ) (cause : ℕ) (request : Packet) →
    proxy_states (nak secret cause request) ≡ proxy_states request

-- and it has no other attribute
abbrev pub NakHasNothingElse : Type 0
NakHasNothingElse = (secret : List ℕ) (cause : ℕ) (request : Packet) →
    (nak secret cause request).attributes ≡ error_cause cause ∷ proxy_states request

-- two requests that agree in these parts have the same NAK
pub record AreRefusedAlike (request other : Packet) : Type 0 where
  pub code : other.code ≡ request.code
  pub id : other.id ≡ request.id
  pub authenticator : other.authenticator ≡ request.authenticator
  pub proxy_states : proxy_states other ≡ proxy_states request

abbrev pub NothingElseCounts : Type 0
NothingElseCounts = (secret : List ℕ) (cause : ℕ) (request other : Packet) →
    AreRefusedAlike request other → nak secret cause other ≡ nak secret cause request
