-- The packet that is returned for a reply (RFC 2865, section 2.3).
use Rattle.std.specs.Prelude.{◌==◌, ◌&&◌, ◌||◌, not, ℕ, Bool, false, List, [], ◌∷◌, ◌++◌, Option, Some, filter, map, option_and_then, if◌then◌else◌}
use Rattle.std.specs.Str.{str_eq_ignore_ascii_case}
use Rattle.roam_wire.specs.Packet.{Attribute, Packet, packet_length}
use Rattle.roam_wire.specs.Attributes.{first_value, only_kind, without_kind}
use Rattle.roam_wire.specs.declared.attribute_type.TheConstants.{PROXY_STATE, MESSAGE_AUTHENTICATOR, USER_NAME}
use Rattle.roam_wire.specs.declared.code.TheConstants.{ACCESS_ACCEPT}
use Rattle.roam_wire.specs.declared.removed_attribute.RemovedAttribute.{RemovedAttribute}
use Rattle.roam_forward.specs.Without.{without}
use Rattle.roam_admission.specs.UserName.{realm_part}
use Rattle.roam_crypto.specs.Authenticators.{with_authenticator, response_authenticator}
use Rattle.roam_crypto.specs.MessageAuthenticator.{empty_message_authenticator, with_message_authenticator}
use Rattle.roam_crypto.specs.Hiding.{Key}
use Rattle.roam_crypto.specs.SaltedFunctions.{salted_hidden_anew}
use Rattle.roam_wire.specs.Codes.{is_access_reply}

-- what a reply is returned with: the Authenticator of the forwarded request, the secret shared with
-- the link from which the reply came, and the one shared with the requester (ours)
pub record Returning : Type 0 where
  pub forwarded_authenticator : List ℕ
  pub home_secret : List ℕ
  pub client_secret : List ℕ

-- it, of these
abbrev pub returning : List ℕ → List ℕ → List ℕ → Returning
returning forwarded_authenticator home_secret client_secret = record {
  forwarded_authenticator = forwarded_authenticator;
  home_secret = home_secret;
  client_secret = client_secret;
}

-- the name part of a packet: what follows the last `@` of its first User-Name, if there is one
abbrev pub name_part : Packet → Option (List ℕ)
name_part p = option_and_then realm_part (first_value USER_NAME p.attributes)

-- two name parts are there, and equal without ASCII case
abbrev pub is_same_name : Option (List ℕ) → Option (List ℕ) → Bool
is_same_name (Some a) (Some b) = str_eq_ignore_ascii_case a b
is_same_name _ _ = false

-- an attribute is a User-Name of the request's name part, or none at all; where own names alone pass
unfoldable pub is_own : Bool → Packet → Attribute → Bool
is_own own request a =
    not own || not (a.kind == USER_NAME) || is_same_name (realm_part a.value) (name_part request)

-- ## Own names
-- In a realm with `own_names` a User-Name of an Access-Accept is returned where its name part, what follows its own
-- last
-- `@`, is that of the request, without ASCII case; each other goes, one that has none too. An access server uses that
-- name in its accounting (RFC 2865, section 5.1).
-- Source: RFC 2865 section 5.1; ours
-- Rules out: an Accept of one realm that names a user of another
-- Stands in: `roam_reply` `Returned.antt`: `named`, `is_own`; `back`, the law `own_names`
--
-- a reply without the User-Names that don't pass
abbrev pub named : Bool → Packet → Packet → Packet
named own request reply = record reply { attributes = filter (is_own own request) reply.attributes }

-- whether own names alone pass of a reply of this code: of an Access-Accept
abbrev pub own_of : Bool → ℕ → Bool
own_of own code = own && code == ACCESS_ACCEPT

-- a reply without the attributes that don't pass
abbrev pub passing : List RemovedAttribute → Packet → Packet
passing removed reply = record reply { attributes = without removed reply.attributes }

-- which don't pass of a reply of this code: of Access replies those that are named, of any other none
abbrev pub removed_of : List RemovedAttribute → ℕ → List RemovedAttribute
removed_of removed code = if is_access_reply code then removed else []

-- ## Reply that passes
-- A reply as it is returned to a peer for a realm: an Access-Accept, -Reject or -Challenge without the attributes that
-- the lists of the two name, in the order of the reply, an Access-Accept also without the User-Names that don't pass;
-- any other reply whole. What is returned for a reply is what is
-- returned for this.
-- Source: ours
-- Rules out: an attribute taken out of another realm's replies; a reply's State or Proxy-State taken for one that goes
-- Stands in: `roam_reply` `Returned.antt`: `passing_reply`; `back`, the law `passing_replies`
--
abbrev pub passing_reply : Bool → Packet → List RemovedAttribute → Packet → Packet
passing_reply own request removed reply =
    passing (removed_of removed reply.code) (named (own_of own reply.code) request reply)

-- a packet's Proxy-States, in their order (RFC 2865, section 5.33)
abbrev pub proxy_states : Packet → List Attribute
proxy_states p = only_kind PROXY_STATE p.attributes

-- an attribute with its salted strings hidden anew: from the link's secret and the forwarded
-- Authenticator to the requester's secret and Authenticator (RFC 2868 section 3.5, RFC 2548 section
-- 2.4)
abbrev pub with_salted_anew : Returning → Packet → Attribute → Attribute
with_salted_anew r request a =
    let from : Key = record { secret = r.home_secret; first = r.forwarded_authenticator } in
    let to : Key = record { secret = r.client_secret; first = request.authenticator } in
    salted_hidden_anew from to a

-- the reply's own attributes as they are returned: without Proxy-State; in an Access reply without
-- Message-Authenticator too, behind one that is still to be filled in; in an Access-Accept with
-- salted strings hidden anew (RFC 2865, section 2.3)
abbrev pub returned_attributes : Returning → Packet → Packet → List Attribute
returned_attributes r reply request =
    let own = without_kind PROXY_STATE reply.attributes in
    if is_access_reply reply.code
    then empty_message_authenticator
    ∷ (if reply.code == ACCESS_ACCEPT
    then map (with_salted_anew r request) (without_kind MESSAGE_AUTHENTICATOR own)
    else without_kind MESSAGE_AUTHENTICATOR own)
    else own

-- the packet before it is sealed and signed: the reply's code, the request's Identifier and
-- Authenticator, and the request's Proxy-States behind the reply's own attributes
abbrev pub unsealed_return : Returning → Packet → Packet → Packet
unsealed_return r reply request = record {
  code = reply.code;
  id = request.id;
  authenticator = request.authenticator;
  attributes = returned_attributes r reply request ++ proxy_states request;
}

-- sealed with the requester's secret over the request's Authenticator (RFC 3579, section 3.2)
abbrev pub sealed_return : Returning → Packet → Packet → Packet
sealed_return r reply request =
    with_message_authenticator r.client_secret request.authenticator (unsealed_return r reply request)

-- ## Returned packet
-- Of a reply, for a request: the reply's Code, the request's Identifier; in Access replies first a
-- Message-Authenticator, then the reply's attributes without Proxy-State and Message-Authenticator, in an
-- Access-Accept with salted strings hidden anew; in other replies its attributes without Proxy-State; then the
-- request's Proxy-States in their order. Sealed for the requester where it has a Message-Authenticator, as each
-- Access reply then has, and signed.
-- Source: RFC 2865 sections 2.3 and 5.33, RFC 2868, RFC 2548; restoring the request's Proxy-States whatever the
-- server sent is ours
-- Rules out: the broker's own Proxy-State left in a reply; only what the server sent back
-- Stands in: `roam_reply` `Returned.antt`: `returned`; `back`, the laws of `roam_reply::laws`
--
-- the returned packet: sealed, and signed for the requester (RFC 2865, section 3)
unfoldable pub returned : Returning → Packet → Packet → Packet
returned r reply request =
    with_authenticator
    (response_authenticator r.client_secret request.authenticator (sealed_return r reply request))
    (sealed_return r reply request)

-- its size, in octets
unfoldable pub returned_length : Returning → Packet → Packet → ℕ
returned_length r reply request = packet_length (unsealed_return r reply request)
