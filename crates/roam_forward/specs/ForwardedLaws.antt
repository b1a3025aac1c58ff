-- Laws of the forwarded packet (ours).
use Rattle.std.specs.Prelude.{◌≡◌, ◌≢◌, ◌==◌, if◌then◌else◌, List, [], ◌∷◌, ◌++◌, ◌<◌}
use Rattle.roam_wire.specs.Packet.{Attribute, Packet, IsPacket, packet_length}
use Rattle.roam_wire.specs.declared.code.TheConstants.{ACCESS_REQUEST}
use Rattle.roam_crypto.specs.Authenticators.{AreSixteenOctets, zero_octets, IsSignedRequest}
use Rattle.roam_crypto.specs.MessageAuthenticator.{HasOneMessageAuthenticator, IsWellSealed, StandsFirst}
use Rattle.roam_forward.specs.Forwarded.{Forwarding, ticket_state, forwarded, forwarded_length, CanBeForwarded}

-- the forwarded packet of a packet that can be forwarded is a packet; its Identifier has to be an
-- octet, and an Access-Request has to be given an Authenticator of sixteen
abbrev pub ForwardedIsPacket : Type 0
ForwardedIsPacket = (f : Forwarding) (request : Packet) → f.id < 256 → IsPacket request →
    CanBeForwarded request → (request.code ≡ ACCESS_REQUEST → AreSixteenOctets f.authenticator) →
    IsPacket (forwarded f request)

-- it has the length that is stated for it
abbrev pub ForwardedHasLength : Type 0
ForwardedHasLength = (f : Forwarding) (request : Packet) → IsPacket request →
    CanBeForwarded request → packet_length (forwarded f request) ≡ forwarded_length request

-- it is well sealed for the link's secret: an Access-Request over its new Authenticator, any other
-- over sixteen zero octets
abbrev pub ForwardedIsWellSealed : Type 0
ForwardedIsWellSealed = (f : Forwarding) (request : Packet) → CanBeForwarded request →
    IsWellSealed f.to_secret
    ((if request.code == ACCESS_REQUEST then f.authenticator else zero_octets) ∷ [])
    (forwarded f request)

-- where it isn't an Access-Request, it is a signed request for the link's secret
abbrev pub ForwardedIsSigned : Type 0
ForwardedIsSigned = (f : Forwarding) (request : Packet) → request.code ≢ ACCESS_REQUEST →
    IsSignedRequest f.to_secret (forwarded f request)

-- an Access-Request has a Message-Authenticator, also where the request had none
abbrev pub AccessHasSeal : Type 0
AccessHasSeal = (f : Forwarding) (request : Packet) → request.code ≡ ACCESS_REQUEST →
    HasOneMessageAuthenticator (forwarded f request)

-- which is its first attribute (ours)
abbrev pub AccessHasSealFirst : Type 0
AccessHasSealFirst = (f : Forwarding) (request : Packet) → request.code ≡ ACCESS_REQUEST →
    StandsFirst (forwarded f request)

-- and the new Authenticator
abbrev pub AccessHasAuthenticator : Type 0
AccessHasAuthenticator = (f : Forwarding) (request : Packet) → request.code ≡ ACCESS_REQUEST →
    (forwarded f request).authenticator ≡ f.authenticator

-- what is forwarded for any request has its code
abbrev pub ForwardedKeepsCode : Type 0
ForwardedKeepsCode = (f : Forwarding) (request : Packet) → (forwarded f request).code ≡ request.code

-- and the new Identifier
abbrev pub ForwardedHasIdentifier : Type 0
ForwardedHasIdentifier = (f : Forwarding) (request : Packet) → (forwarded f request).id ≡ f.id

-- and the ticket as its last attribute
abbrev pub TicketIsLast : Type 0
TicketIsLast = (f : Forwarding) (request : Packet) →
    (before : List Attribute)
    × ((forwarded f request).attributes ≡ before ++ ticket_state f.ticket ∷ [])
