-- Laws of sealing and signing (ours).
use Rattle.std.specs.Prelude.{◌≡◌, ◌≢◌, ◌⊎◌, ◌↔◌, ℕ, List, [], ◌∷◌, ◌++◌}
use Rattle.roam_wire.specs.Packet.{Attribute, Packet, IsPacket, packet_length}
use Rattle.roam_wire.specs.Attributes.{first_value, count_of}
use Rattle.roam_wire.specs.declared.attribute_type.TheConstants.{MESSAGE_AUTHENTICATOR}
use Rattle.roam_crypto.specs.Authenticators.{AreSixteenOctets, zero_octets, with_authenticator, response_authenticator, request_authenticator, IsSignedReply, signed_reply, IsSignedRequest, signed_request}
use Rattle.roam_crypto.specs.MessageAuthenticator.{HasNoMessageAuthenticator, HasAtMostOneMessageAuthenticator, attributes_with_value, with_value, message_authenticator, with_message_authenticator, IsWellSealed}

-- a sealed packet is well sealed, for the secret and the Authenticator with which it was sealed
abbrev pub SealedIsWellSealed : Type 0
SealedIsWellSealed = (secret authenticator : List ℕ) (p : Packet) →
    HasAtMostOneMessageAuthenticator p →
    IsWellSealed secret (authenticator ∷ []) (with_message_authenticator secret authenticator p)

-- sealing keeps a packet's length
abbrev pub SealingKeepsLength : Type 0
SealingKeepsLength = (secret authenticator : List ℕ) (p : Packet) →
    HasAtMostOneMessageAuthenticator p →
    packet_length (with_message_authenticator secret authenticator p) ≡ packet_length p

-- what is sealed is still a packet
abbrev pub SealingKeepsPacket : Type 0
SealingKeepsPacket = (secret authenticator : List ℕ) (p : Packet) →
    HasAtMostOneMessageAuthenticator p → IsPacket p →
    IsPacket (with_message_authenticator secret authenticator p)

-- sealing leaves a packet without a Message-Authenticator as it is
abbrev pub UnsealedStays : Type 0
UnsealedStays = (secret authenticator : List ℕ) (p : Packet) → HasNoMessageAuthenticator p →
    with_message_authenticator secret authenticator p ≡ p

-- a packet is well sealed for two Authenticators where it is for one of them
abbrev pub WellSealedForEither : Type 0
WellSealedForEither = (secret a b : List ℕ) (p : Packet) →
    IsWellSealed secret (a ∷ b ∷ []) p
    ↔ (IsWellSealed secret (a ∷ []) p ⊎ IsWellSealed secret (b ∷ []) p)

-- zeros in the Message-Authenticator's place leave nothing of what stood there
abbrev pub ZeroedAgain : Type 0
ZeroedAgain = (value : List ℕ) (p : Packet) →
    with_value zero_octets (with_value value p) ≡ with_value zero_octets p

-- so a Message-Authenticator doesn't depend on the Value that stands in its place
abbrev pub ValueDoesNotCount : Type 0
ValueDoesNotCount = (secret authenticator value : List ℕ) (p : Packet) →
    message_authenticator secret authenticator (with_value value p)
    ≡ message_authenticator secret authenticator p

-- nor on the packet's Authenticator field
abbrev pub FieldDoesNotCount : Type 0
FieldDoesNotCount = (secret authenticator field : List ℕ) (p : Packet) →
    message_authenticator secret authenticator (with_authenticator field p)
    ≡ message_authenticator secret authenticator p

-- another Value in the Message-Authenticator leaves as many attributes of each Type
abbrev pub CountsStay : Type 0
CountsStay = (kind : ℕ) (value : List ℕ) (p : Packet) →
    count_of kind (with_value value p).attributes ≡ count_of kind p.attributes

-- and the first Value of every other Type
abbrev pub OthersStay : Type 0
OthersStay = (kind : ℕ) (value : List ℕ) (p : Packet) → kind ≢ MESSAGE_AUTHENTICATOR →
    first_value kind (with_value value p).attributes ≡ first_value kind p.attributes

-- it stands where the other stood
abbrev pub ValueStandsInPlace : Type 0
ValueStandsInPlace = (value own : List ℕ) (before after : List Attribute) →
    count_of MESSAGE_AUTHENTICATOR before ≡ 0 → count_of MESSAGE_AUTHENTICATOR after ≡ 0 →
    attributes_with_value value
    (before ++ record { kind = MESSAGE_AUTHENTICATOR; value = own } ∷ after)
    ≡ before ++ record { kind = MESSAGE_AUTHENTICATOR; value = value } ∷ after

-- a reply with its Response Authenticator is signed
abbrev pub SignedReplyIsSigned : Type 0
SignedReplyIsSigned = (secret request_authenticator : List ℕ) (p : Packet) →
    IsSignedReply secret request_authenticator (signed_reply secret request_authenticator p)

-- a request with its Request Authenticator is signed
abbrev pub SignedRequestIsSigned : Type 0
SignedRequestIsSigned = (secret : List ℕ) (p : Packet) →
    IsSignedRequest secret (signed_request secret p)

-- a packet that is sealed first and then signed is still well sealed
abbrev pub SigningKeepsSeal : Type 0
SigningKeepsSeal =
    (secret : List ℕ) (authenticators : List (List ℕ)) (field : List ℕ) (p : Packet) →
    IsWellSealed secret authenticators p →
    IsWellSealed secret authenticators (with_authenticator field p)

-- a packet with other sixteen octets for its Authenticator is a packet
abbrev pub OtherFieldKeepsPacket : Type 0
OtherFieldKeepsPacket = (field : List ℕ) (p : Packet) → AreSixteenOctets field → IsPacket p →
    IsPacket (with_authenticator field p)

-- a Response Authenticator has sixteen octets (RFC 2865, section 3)
abbrev pub ResponseAuthenticatorIsSixteen : Type 0
ResponseAuthenticatorIsSixteen = (secret request_authenticator : List ℕ) (p : Packet) →
    AreSixteenOctets (response_authenticator secret request_authenticator p)

-- so has a Request Authenticator (RFC 2866, section 3)
abbrev pub RequestAuthenticatorIsSixteen : Type 0
RequestAuthenticatorIsSixteen = (secret : List ℕ) (p : Packet) →
    AreSixteenOctets (request_authenticator secret p)

-- and a Message-Authenticator (RFC 3579, section 3.2)
abbrev pub MessageAuthenticatorIsSixteen : Type 0
MessageAuthenticatorIsSixteen = (secret authenticator : List ℕ) (p : Packet) →
    AreSixteenOctets (message_authenticator secret authenticator p)

-- so a packet that is signed as a reply is a packet
abbrev pub SignedReplyIsPacket : Type 0
SignedReplyIsPacket = (secret request_authenticator : List ℕ) (p : Packet) → IsPacket p →
    IsPacket (signed_reply secret request_authenticator p)

-- and so is one that is signed as a request
abbrev pub SignedRequestIsPacket : Type 0
SignedRequestIsPacket = (secret : List ℕ) (p : Packet) → IsPacket p →
    IsPacket (signed_request secret p)
