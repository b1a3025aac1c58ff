-- Laws of what the packet carries that is forwarded for a shaped request (RFC 2865, section 2.3). Each law is a clause
-- of a function of src/forwarding_laws.rt.
use Rattle.std.specs.Prelude.{◌≡◌, ℕ, List, [], ◌∷◌, ◌++◌}
use Rattle.std.specs.List.{AllZip}
use Rattle.roam_wire.specs.Packet.{Attribute, Packet}
use Rattle.roam_wire.specs.Attributes.{without_kind}
use Rattle.roam_wire.specs.declared.attribute_type.TheConstants.{MESSAGE_AUTHENTICATOR}
use Rattle.roam_wire.specs.declared.code.TheConstants.{ACCESS_REQUEST}
use Rattle.roam_crypto.specs.Hiding.{Key}
use Rattle.roam_forward.specs.Without.{without}
use Rattle.roam_forward.specs.CarriedLaws.{IsCarried}
use Rattle.roam_forward.specs.Forwarded.{Forwarding, ticket_state, added_challenge, forwarded, CanBeForwarded}
use Rattle.roam_forward.specs.Shaped.{Shaping, added_for_peer, no_shaping, passing, shaped}

-- An Access-Request's attributes: a Message-Authenticator, then each of the request's that passes but its own
-- Message-Authenticator, in their order; then the challenge that is added, what is added for the peer, and the ticket.
abbrev pub ShapedAccessCarries : Type 0
ShapedAccessCarries = (f : Forwarding) (s : Shaping) (request : Packet) → CanBeForwarded (shaped s request) →
    request.code ≡ ACCESS_REQUEST →
    let from : Key = record { secret = f.from_secret; first = request.authenticator } in
    let to : Key = record { secret = f.to_secret; first = f.authenticator } in
    (seal : List ℕ) × (carried : List Attribute)
    × ((forwarded f (shaped s request)).attributes
    ≡ (record { kind = MESSAGE_AUTHENTICATOR; value = seal } ∷ carried)
    ++ added_challenge (passing s.removed request)
    ++ added_for_peer s request.code (without s.removed request.attributes)
    ++ ticket_state f.ticket ∷ [])
    × AllZip (IsCarried from to)
    (without_kind MESSAGE_AUTHENTICATOR (without s.removed request.attributes)) carried

-- where nothing is taken out and nothing added, what is forwarded is what is forwarded for the request
abbrev pub NothingShaped : Type 0
NothingShaped = (f : Forwarding) (request : Packet) →
    forwarded f (shaped no_shaping request) ≡ forwarded f request
