-- The packet that is returned for a reply, before its salted strings are hidden anew (ours).
use Rattle.std.specs.Prelude.{◌≡◌, ◌==◌, ◌&&◌, ℕ, Bool, not, List, [], ◌∷◌, ◌++◌, filter, if◌then◌else◌}
use Rattle.roam_wire.specs.Packet.{Attribute, Packet}
use Rattle.roam_wire.specs.declared.removed_attribute.RemovedAttribute.{RemovedAttribute}
use Rattle.roam_forward.specs.Without.{passed}
use Rattle.roam_wire.specs.declared.attribute_type.TheConstants.{PROXY_STATE, MESSAGE_AUTHENTICATOR}
use Rattle.roam_crypto.specs.MessageAuthenticator.{empty_message_authenticator}
use Rattle.roam_wire.specs.Codes.{is_access_reply}
use Rattle.roam_wire.specs.Reading.{IsPacketText, packet_of}
use Rattle.roam_reply.specs.Returned.{proxy_states}

-- whether an attribute of a reply is returned: no Proxy-State is, and no Message-Authenticator of an
-- Access reply, in which another one stands first
unfoldable pub is_carried : Bool → Attribute → Bool
is_carried access a = not (a.kind == PROXY_STATE) && not (access && a.kind == MESSAGE_AUTHENTICATOR)

-- what is returned of an attribute of a reply
abbrev pub piece : Bool → List RemovedAttribute → Attribute → List Attribute
piece access removed a = filter (is_carried access) (passed removed a)

-- the same, where an attribute that isn't kept isn't looked at
abbrev pub own_piece : Bool → List RemovedAttribute → (Attribute → Bool) → Attribute → List Attribute
own_piece access removed keep a = if keep a then piece access removed a else []

-- the Message-Authenticator that stands first in an Access reply
abbrev pub first_seal : Bool → List Attribute
first_seal access = if access then empty_message_authenticator ∷ [] else []

-- the attributes, with salted strings as the home server hid them
abbrev pub plain_attributes : Packet → Packet → List Attribute
plain_attributes reply request =
    first_seal (is_access_reply reply.code)
    ++ filter (is_carried (is_access_reply reply.code)) reply.attributes
    ++ proxy_states request

-- and the packet
abbrev pub plain_packet : Packet → Packet → Packet
plain_packet reply request = record {
  code = reply.code;
  id = request.id;
  authenticator = request.authenticator;
  attributes = plain_attributes reply request;
}

-- octets that are that packet's
pub record IsPlainText (reply request : Packet) (octets : List ℕ) : Type 0 where
  pub text : IsPacketText octets
  pub packet : packet_of octets ≡ plain_packet reply request
