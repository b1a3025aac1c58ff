-- Laws of what the forwarded packet carries of the request (RFC 2865, section 2.3). Each law is a clause of a function
-- of src/forwarding_laws.rt.
use Rattle.std.specs.Prelude.{◌≡◌, ◌≢◌, ◌<◌, ℕ, List, [], ◌∷◌, ◌++◌}
use Rattle.std.specs.List.{AllZip}
use Rattle.roam_wire.specs.Packet.{Attribute, Packet, IsPacket, packet_text}
use Rattle.roam_wire.specs.Attributes.{without_kind}
use Rattle.roam_wire.specs.Reading.{ReadsAs}
use Rattle.roam_wire.specs.declared.attribute_type.TheConstants.{USER_PASSWORD, MESSAGE_AUTHENTICATOR}
use Rattle.roam_wire.specs.declared.code.TheConstants.{ACCESS_REQUEST}
use Rattle.roam_crypto.specs.Authenticators.{AreSixteenOctets}
use Rattle.roam_crypto.specs.MessageAuthenticator.{attributes_with_value}
use Rattle.roam_crypto.specs.Hiding.{Key, IsHiddenAnew}
use Rattle.roam_forward.specs.Forwarded.{Forwarding, ticket_state, added_challenge, forwarded, CanBeForwarded}

-- the forwarded packet's octets read as it
abbrev pub ForwardedReads : Type 0
ForwardedReads = (f : Forwarding) (request : Packet) → f.id < 256 → IsPacket request →
    CanBeForwarded request → (request.code ≡ ACCESS_REQUEST → AreSixteenOctets f.authenticator) →
    ReadsAs (packet_text (forwarded f request)) (forwarded f request)

-- an attribute as it is carried to another server: a User-Password hides the same plain text with the
-- other key, and every other attribute is the same octet for octet (RFC 2865, section 5.2)
pub record IsCarried (from to : Key) (old new : Attribute) : Type 0 where
  pub kind : new.kind ≡ old.kind
  pub password : old.kind ≡ USER_PASSWORD → IsHiddenAnew from to old.value new.value
  pub other : old.kind ≢ USER_PASSWORD → new.value ≡ old.value

-- ## Carried attributes
-- A forwarded Access-Request has a Message-Authenticator, then each attribute of the request in its order, then
-- what is added; a password opens to the same plain text, all others stand octet for octet. Any other request's
-- attributes stand in their places, octet for octet but for the seal's Value. The same of a returned packet,
-- with salted strings in place of passwords.
-- Source: RFC 2865 sections 2.3 and 5.2
-- Rules out: an attribute dropped, doubled, moved or changed
-- Stands in: `roam_forward` `CarriedLaws.antt`: `AccessCarriesAll`, `OthersAreCarried`; the law
-- `forwarded_carries`. `roam_reply` `CarriedLaws.antt`: `AcceptCarriesAll`, `RejectCarriesAll`,
-- `OthersAreCarriedBack`; the law `returned_carries`
--
-- An Access-Request's attributes: a Message-Authenticator, then each attribute of the request but its
-- Message-Authenticator, in their order, then what is added.
abbrev pub AccessCarriesAll : Type 0
AccessCarriesAll = (f : Forwarding) (request : Packet) → CanBeForwarded request →
    request.code ≡ ACCESS_REQUEST →
    let from : Key = record { secret = f.from_secret; first = request.authenticator } in
    let to : Key = record { secret = f.to_secret; first = f.authenticator } in
    (seal : List ℕ) × (carried : List Attribute)
    × ((forwarded f request).attributes
    ≡ (record { kind = MESSAGE_AUTHENTICATOR; value = seal } ∷ carried)
    ++ added_challenge request ++ ticket_state f.ticket ∷ [])
    × AllZip (IsCarried from to) (without_kind MESSAGE_AUTHENTICATOR request.attributes) carried

-- Any other request's: all of them in their places, octet for octet but for the Message-Authenticator's
-- Value, which is left out here on both sides, then the ticket.
abbrev pub OthersAreCarried : Type 0
OthersAreCarried = (f : Forwarding) (request : Packet) → request.code ≢ ACCESS_REQUEST →
    attributes_with_value [] (forwarded f request).attributes
    ≡ attributes_with_value [] request.attributes ++ ticket_state f.ticket ∷ []
