-- The place of a Message-Authenticator in a packet's octets (RFC 3579, section 3.2).
use Rattle.std.specs.Prelude.{◌≡◌, ℕ, ◌+◌, List, ◌∷◌, ◌++◌, length}
use Rattle.roam_wire.specs.Packet.{Attribute, attributes_text}
use Rattle.roam_wire.specs.Attributes.{count_of}
use Rattle.roam_wire.specs.declared.attribute_type.TheConstants.{MESSAGE_AUTHENTICATOR}

-- the Value of the first Message-Authenticator begins at this octet of the packet: behind the header,
-- the attributes before it, and its own Type and Length
pub record IsValuePlace (at : ℕ) (attributes : List Attribute) : Type 0 where
  pub before : List Attribute
  pub value : List ℕ
  pub behind : List Attribute
  pub split : attributes ≡ before ++ record { kind = MESSAGE_AUTHENTICATOR; value = value } ∷ behind
  pub none_before : count_of MESSAGE_AUTHENTICATOR before ≡ 0
  pub place : at ≡ 22 + length (attributes_text before)
