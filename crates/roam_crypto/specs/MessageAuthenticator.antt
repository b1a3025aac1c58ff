-- The Message-Authenticator (RFC 3579, section 3.2).
use Rattle.std.specs.Prelude.{◌≡◌, ◌⊎◌, ℕ, List, ◌∷◌, Some, length, map, if◌then◌else◌, IsSomeAnd, Any}
use Rattle.roam_wire.specs.Packet.{Attribute, Packet, attributes_text, packet_text}
use Rattle.roam_wire.specs.Attributes.{has_kind, count_of, first_value}
use Rattle.roam_wire.specs.declared.attribute_type.TheConstants.{MESSAGE_AUTHENTICATOR}
use Rattle.roam_crypto.specs.Authenticators.{zero_octets, with_authenticator}
use Rattle.roam_crypto.specs.Hmac.{hmac_md5}

-- the packet has no Message-Authenticator
abbrev pub HasNoMessageAuthenticator : Packet → Type 0
HasNoMessageAuthenticator p = count_of MESSAGE_AUTHENTICATOR p.attributes ≡ 0

-- the packet has just one Message-Authenticator, and its Value has 16 octets
-- (RFC 3579, section 3.2)
pub record HasOneMessageAuthenticator (p : Packet) : Type 0 where
  pub one : count_of MESSAGE_AUTHENTICATOR p.attributes ≡ 1
  pub size :
      IsSomeAnd (first_value MESSAGE_AUTHENTICATOR p.attributes) (λ value. length value ≡ 16)

-- the packet has at most one Message-Authenticator, of 16 octets (RFC 3579, section 3.2)
abbrev pub HasAtMostOneMessageAuthenticator : Packet → Type 0
HasAtMostOneMessageAuthenticator p = HasNoMessageAuthenticator p ⊎ HasOneMessageAuthenticator p

-- the packet's first attribute is a Message-Authenticator (ours: it is put there, so that who checks
-- it need not look further)
abbrev pub StandsFirst : Packet → Type 0
StandsFirst p =
    (value : List ℕ) × (rest : List Attribute)
    × (p.attributes ≡ record { kind = MESSAGE_AUTHENTICATOR; value = value } ∷ rest)

-- the attribute with this Value where it is a Message-Authenticator, and as it is where it isn't
abbrev pub attribute_with_value : List ℕ → Attribute → Attribute
attribute_with_value value a =
    record a { value = if has_kind MESSAGE_AUTHENTICATOR a then value else a.value }

-- the attributes with this Value in each Message-Authenticator
abbrev pub attributes_with_value : List ℕ → List Attribute → List Attribute
attributes_with_value value attributes = map (attribute_with_value value) attributes

-- the packet with this Value in its Message-Authenticator; as it is where it has none
abbrev pub with_value : List ℕ → Packet → Packet
with_value value p = record p { attributes = attributes_with_value value p.attributes }

-- the octets of attributes with sixteen zero octets in each Message-Authenticator
abbrev pub zeroed_text : List Attribute → List ℕ
zeroed_text attributes = attributes_text (attributes_with_value zero_octets attributes)

-- a Message-Authenticator that isn't filled in (RFC 3579, section 3.2)
abbrev pub empty_message_authenticator : Attribute
empty_message_authenticator = record { kind = MESSAGE_AUTHENTICATOR; value = zero_octets }

-- ## Message-Authenticator
-- HMAC-MD5, keyed by the secret, over the packet's text with a given Authenticator in the Authenticator's place
-- and the attribute's own 16 octets zero. It is defined where the packet has just one attribute of type 80, of
-- 16 octets.
-- Source: RFC 3579 section 3.2
-- Rules out: a digest over its own octets
-- Stands in: `roam_crypto` `MessageAuthenticator.antt`: `message_authenticator`, `HasOneMessageAuthenticator`;
-- `message_auth`
--
-- the Message-Authenticator of a packet over an Authenticator: HMAC-MD5, keyed by the secret, of
-- the whole packet with that Authenticator in its field and sixteen zero octets in the
-- Message-Authenticator (RFC 3579, section 3.2)
unfoldable pub message_authenticator : List ℕ → List ℕ → Packet → List ℕ
message_authenticator secret authenticator p =
    hmac_md5 secret (packet_text (with_authenticator authenticator (with_value zero_octets p)))

-- ## Sealed, well sealed
-- Sealing a packet puts its Message-Authenticator there, and leaves a packet without type 80 as it is. A packet
-- is well sealed for a secret and some Authenticators where it has no type 80, or just one, of 16 octets, right
-- for one of them.
-- Source: RFC 3579 section 3.2
-- Rules out: a wrong Message-Authenticator passed on
-- Stands in: `roam_crypto` `MessageAuthenticator.antt`: `with_message_authenticator`, `IsWellSealed`;
-- `message_ok`, `seal`, the laws `sealing`, `zeroing`, `signing`, `deciding`
--
-- the packet sealed: its Message-Authenticator over an Authenticator in its place; as it is where
-- it has no such place (ours)
abbrev pub with_message_authenticator : List ℕ → List ℕ → Packet → Packet
with_message_authenticator secret authenticator p =
    with_value (message_authenticator secret authenticator p) p

-- the packet's Message-Authenticator is the one over this Authenticator
-- (RFC 3579, section 3.2)
abbrev pub IsSealedOver : List ℕ → Packet → List ℕ → Type 0
IsSealedOver secret p authenticator =
    first_value MESSAGE_AUTHENTICATOR p.attributes
    ≡ Some (message_authenticator secret authenticator p)

-- a packet is well sealed for a secret and some Authenticators where it has no
-- Message-Authenticator, or just one, of 16 octets, that is the one over some of them (ours)
abbrev pub IsWellSealed : List ℕ → List (List ℕ) → Packet → Type 0
IsWellSealed secret authenticators p =
    HasNoMessageAuthenticator p
    ⊎ (HasOneMessageAuthenticator p × Any (IsSealedOver secret p) authenticators)
