-- Laws of the returned packet, whatever the reply's code (RFC 2865, section 2.3). Each law is a clause of a function of
-- src/laws.rt.
use Rattle.std.specs.Prelude.{◌≡◌, ◌≤◌, [], ◌∷◌, IsTrue}
use Rattle.roam_wire.specs.Packet.{Packet, IsPacket, packet_length, packet_text}
use Rattle.roam_wire.specs.Reading.{ReadsAs}
use Rattle.roam_crypto.specs.Authenticators.{IsSignedReply}
use Rattle.roam_crypto.specs.MessageAuthenticator.{HasOneMessageAuthenticator, HasAtMostOneMessageAuthenticator, IsWellSealed, StandsFirst}
use Rattle.roam_wire.specs.Codes.{is_access_reply}
use Rattle.roam_wire.specs.declared.packet_size.TheConstants.{MAX_PACKET_LENGTH}
use Rattle.roam_reply.specs.Returned.{Returning, proxy_states, returned, returned_length}

-- a reply to a request, both read, that can be returned: it has at most one Message-Authenticator, of
-- 16 octets, and the returned packet fits (RFC 2865, section 3)
pub record IsReturnable (r : Returning) (reply request : Packet) : Type 0 where
  pub reply_is_packet : IsPacket reply
  pub request_is_packet : IsPacket request
  pub at_most_one : HasAtMostOneMessageAuthenticator reply
  pub short : returned_length r reply request ≤ MAX_PACKET_LENGTH

-- what is returned is a packet (RFC 2865, section 3)
abbrev pub ReturnedIsPacket : Type 0
ReturnedIsPacket = (r : Returning) (reply request : Packet) →
    IsReturnable r reply request → IsPacket (returned r reply request)

-- and its octets read as it
abbrev pub ReturnedReads : Type 0
ReturnedReads = (r : Returning) (reply request : Packet) →
    IsReturnable r reply request →
    ReadsAs (packet_text (returned r reply request)) (returned r reply request)

-- it has the stated size
abbrev pub ReturnedHasLength : Type 0
ReturnedHasLength = (r : Returning) (reply request : Packet) →
    HasAtMostOneMessageAuthenticator reply →
    packet_length (returned r reply request) ≡ returned_length r reply request

-- it is signed with the requester's secret for the request's Authenticator (RFC 2865, section 3)
abbrev pub ReturnedIsSigned : Type 0
ReturnedIsSigned = (r : Returning) (reply request : Packet) →
    IsSignedReply r.client_secret request.authenticator (returned r reply request)

-- and well sealed for them (RFC 3579, section 3.2)
abbrev pub ReturnedIsWellSealed : Type 0
ReturnedIsWellSealed = (r : Returning) (reply request : Packet) →
    HasAtMostOneMessageAuthenticator reply →
    IsWellSealed r.client_secret (request.authenticator ∷ []) (returned r reply request)

-- an Access reply is returned with a Message-Authenticator (ours)
abbrev pub AccessIsSealed : Type 0
AccessIsSealed = (r : Returning) (reply request : Packet) →
    IsTrue (is_access_reply reply.code) →
    HasOneMessageAuthenticator (returned r reply request)

-- which is its first attribute (ours)
abbrev pub AccessReplyHasSealFirst : Type 0
AccessReplyHasSealFirst = (r : Returning) (reply request : Packet) →
    IsTrue (is_access_reply reply.code) →
    StandsFirst (returned r reply request)

-- the code is the reply's
abbrev pub CodeIsTheReplys : Type 0
CodeIsTheReplys = (r : Returning) (reply request : Packet) →
    (returned r reply request).code ≡ reply.code

-- the Identifier is the request's (RFC 2865, section 3)
abbrev pub IdentifierIsTheRequests : Type 0
IdentifierIsTheRequests = (r : Returning) (reply request : Packet) →
    (returned r reply request).id ≡ request.id

-- its Proxy-States are the request's, in their order, and no other (RFC 2865, section 5.33)
abbrev pub ProxyStatesAreTheRequests : Type 0
ProxyStatesAreTheRequests = (r : Returning) (reply request : Packet) →
    proxy_states (returned r reply request) ≡ proxy_states request
