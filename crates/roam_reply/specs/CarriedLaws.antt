-- Laws of what the returned packet carries of the reply (RFC 2865, section 2.3). Each law is a clause of a function of
-- src/laws.rt.
use Rattle.std.specs.Prelude.{◌≡◌, ◌≢◌, ℕ, true, false, List, [], ◌∷◌, ◌++◌}
use Rattle.std.specs.List.{AllZip}
use Rattle.roam_wire.specs.Packet.{Attribute, Packet}
use Rattle.roam_wire.specs.Attributes.{without_kind}
use Rattle.roam_wire.specs.declared.attribute_type.TheConstants.{PROXY_STATE, MESSAGE_AUTHENTICATOR}
use Rattle.roam_wire.specs.declared.code.TheConstants.{ACCESS_ACCEPT}
use Rattle.roam_crypto.specs.MessageAuthenticator.{attributes_with_value}
use Rattle.roam_crypto.specs.Hiding.{Key}
use Rattle.roam_crypto.specs.SaltedValues.{IsAttributeAnew}
use Rattle.roam_wire.specs.Codes.{is_access_reply}
use Rattle.roam_reply.specs.Returned.{Returning, proxy_states, returned}

-- the reply's attributes but for Proxy-States and Message-Authenticator
abbrev pub own_attributes : Packet → List Attribute
own_attributes reply = without_kind MESSAGE_AUTHENTICATOR (without_kind PROXY_STATE reply.attributes)

-- An Access-Accept's attributes: a Message-Authenticator, then each of the reply's own in their order, whose salted
-- strings hide the same plain texts with the other key, all else octet for octet (RFC 2868, section 3.5; RFC 2548,
-- section 2.4), then the request's Proxy-States.
abbrev pub AcceptCarriesAll : Type 0
AcceptCarriesAll = (r : Returning) (reply request : Packet) → reply.code ≡ ACCESS_ACCEPT →
    let from : Key = record { secret = r.home_secret; first = r.forwarded_authenticator } in
    let to : Key = record { secret = r.client_secret; first = request.authenticator } in
    (seal : List ℕ) × (carried : List Attribute)
    × ((returned r reply request).attributes
    ≡ (record { kind = MESSAGE_AUTHENTICATOR; value = seal } ∷ carried) ++ proxy_states request)
    × AllZip (IsAttributeAnew from to) (own_attributes reply) carried

-- those of an Access-Reject and an Access-Challenge: the same, all octet for octet
abbrev pub RejectCarriesAll : Type 0
RejectCarriesAll = (r : Returning) (reply request : Packet) →
    is_access_reply reply.code ≡ true → reply.code ≢ ACCESS_ACCEPT →
    (seal : List ℕ)
    × ((returned r reply request).attributes
    ≡ (record { kind = MESSAGE_AUTHENTICATOR; value = seal } ∷ own_attributes reply)
    ++ proxy_states request)

-- any other reply's: all but its Proxy-States in their places, octet for octet but for the
-- Message-Authenticator's Value, which is left out here on both sides, then the request's Proxy-States
abbrev pub OthersAreCarriedBack : Type 0
OthersAreCarriedBack = (r : Returning) (reply request : Packet) →
    is_access_reply reply.code ≡ false →
    attributes_with_value [] (returned r reply request).attributes
    ≡ attributes_with_value [] (without_kind PROXY_STATE reply.attributes) ++ proxy_states request
