-- Laws of a reply's attributes that are returned to a peer for a realm (ours). Each law is a clause of a function of
-- src/laws.rt.
use Rattle.std.specs.Prelude.{◌≡◌, ℕ, Bool, true, false, List, [], ◌∷◌, ◌++◌, filter}
use Rattle.std.specs.List.{AllZip}
use Rattle.roam_wire.specs.Packet.{Attribute, Packet}
use Rattle.roam_wire.specs.Attributes.{only_kind, without_kind}
use Rattle.roam_wire.specs.Codes.{is_access_reply}
use Rattle.roam_wire.specs.declared.attribute_type.TheConstants.{MESSAGE_AUTHENTICATOR, USER_NAME}
use Rattle.roam_wire.specs.declared.code.TheConstants.{ACCESS_ACCEPT}
use Rattle.roam_wire.specs.declared.removed_attribute.RemovedAttribute.{RemovedAttribute}
use Rattle.roam_crypto.specs.Hiding.{Key}
use Rattle.roam_crypto.specs.SaltedValues.{IsAttributeAnew}
use Rattle.roam_forward.specs.Without.{without}
use Rattle.roam_reply.specs.CarriedLaws.{own_attributes}
use Rattle.roam_admission.specs.UserName.{realm_part}
use Rattle.roam_reply.specs.Returned.{Returning, is_same_name, name_part, named, own_of, passing_reply, proxy_states, returned}

-- of an Access reply's attributes, Proxy-States and Message-Authenticator apart, just those pass that the lists don't
-- name, in their order
abbrev pub AccessPasses : Type 0
AccessPasses = (own : Bool) (request : Packet) (removed : List RemovedAttribute) (reply : Packet) →
    is_access_reply reply.code ≡ true →
    own_attributes (passing_reply own request removed reply)
    ≡ without removed (own_attributes (named (own_of own reply.code) request reply))

-- and of an Access-Accept, where own names alone pass, just the User-Names of the request's name part: of its other
-- attributes none goes for that
abbrev pub OwnNamesPass : Type 0
OwnNamesPass = (request reply : Packet) →
    only_kind USER_NAME (named true request reply).attributes
    ≡ filter (λ a. is_same_name (realm_part a.value) (name_part request)) (only_kind USER_NAME reply.attributes)

abbrev pub OtherAttributesPass : Type 0
OtherAttributesPass = (own : Bool) (request reply : Packet) →
    without_kind USER_NAME (named own request reply).attributes ≡ without_kind USER_NAME reply.attributes

-- so an Access-Accept carries a Message-Authenticator, then just those, each in its order and with salted strings that
-- open to the same plain text, then the request's Proxy-States: nothing else is taken out of it
abbrev pub AcceptCarriesWhatPasses : Type 0
AcceptCarriesWhatPasses = (r : Returning) (own : Bool) (removed : List RemovedAttribute) (reply request : Packet) →
    reply.code ≡ ACCESS_ACCEPT →
    let from : Key = record { secret = r.home_secret; first = r.forwarded_authenticator } in
    let to : Key = record { secret = r.client_secret; first = request.authenticator } in
    (seal : List ℕ) × (carried : List Attribute)
    × ((returned r (passing_reply own request removed reply) request).attributes
    ≡ (record { kind = MESSAGE_AUTHENTICATOR; value = seal } ∷ carried) ++ proxy_states request)
    × AllZip (IsAttributeAnew from to)
    (without removed (own_attributes (named (own_of own reply.code) request reply))) carried

-- any other reply passes whole
abbrev pub OthersPassWhole : Type 0
OthersPassWhole = (own : Bool) (request : Packet) (removed : List RemovedAttribute) (reply : Packet) →
    is_access_reply reply.code ≡ false → passing_reply own request removed reply ≡ reply

-- and so does each where nothing is named
abbrev pub NothingNamed : Type 0
NothingNamed = (request reply : Packet) → passing_reply false request [] reply ≡ reply
