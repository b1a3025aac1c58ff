-- A packet, and its octets (RFC 2865, sections 3 and 5).
use Rattle.std.specs.Prelude.{◌≡◌, ℕ, ◌+◌, ◌/◌, ◌%◌, ◌<◌, ◌≤◌, List, ◌∷◌, ◌++◌, length, slice_index}
use Rattle.std.specs.List.{flat_map, AllByRecursion}
use Rattle.roam_wire.specs.declared.packet_size.TheConstants.{MAX_PACKET_LENGTH}

-- an attribute: its Type, and its Value (RFC 2865, section 5)
pub record Attribute : Type 0 where
  pub kind : ℕ
  pub value : List ℕ

-- ## Packet
-- A Code, an Identifier, an Authenticator of 16 octets, and a list of attributes, each a Type and a Value of 0
-- to 253 octets; each of them a number below 256; at most 4096 octets in all, for every code.
-- Source: RFC 2865 section 3; the limit for accounting is ours
-- Rules out: a list of attributes that no datagram can hold
-- Stands in: `roam_wire` `Packet.antt`: `Packet`, `IsPacket`
--
-- a packet: Code, Identifier, Authenticator, attributes (RFC 2865, section 3)
pub record Packet : Type 0 where
  pub code : ℕ
  pub id : ℕ
  pub authenticator : List ℕ
  pub attributes : List Attribute

-- the octets of an attribute: Type, Length of all of it, Value (RFC 2865, section 5)
abbrev pub attribute_text : Attribute → List ℕ
attribute_text a = a.kind ∷ (length a.value + 2) ∷ a.value

-- the octets of attributes, one after another
abbrev pub attributes_text : List Attribute → List ℕ
attributes_text attributes = flat_map attribute_text attributes

-- the number of a packet's octets: a header of 20, and the attributes
abbrev pub packet_length : Packet → ℕ
packet_length p = 20 + length (attributes_text p.attributes)

-- ## Packet text
-- The packet's octets: Code, Identifier, Length in two octets with the high one first, Authenticator, and each
-- attribute as Type, Length, Value.
-- Source: RFC 2865 sections 3 and 5
-- Rules out: a Length that counts something else
-- Stands in: `roam_wire` `Packet.antt`: `packet_text`; `PacketBuf::finish`
--
-- the octets of a packet: Code, Identifier, Length in two octets with the high one first,
-- Authenticator, attributes (RFC 2865, section 3)
abbrev pub packet_text : Packet → List ℕ
packet_text p =
    p.code ∷ p.id ∷ (packet_length p / 256) ∷ (packet_length p % 256) ∷ p.authenticator
    ++ attributes_text p.attributes

-- each of them is an octet, a number below 256
abbrev pub AreOctets : List ℕ → Type 0
AreOctets octets = (i : ℕ) → slice_index octets i < 256

-- an attribute is octets, and its Value has at most 253 of them (RFC 2865, section 5)
pub record IsAttribute (a : Attribute) : Type 0 where
  pub kind : a.kind < 256
  pub octets : AreOctets a.value
  pub size : length a.value ≤ 253

-- a packet is octets: an Authenticator of 16, and at most 4096 in all (RFC 2865, section 3)
pub record IsPacket (p : Packet) : Type 0 where
  pub code : p.code < 256
  pub id : p.id < 256
  pub octets : AreOctets p.authenticator
  pub authenticator : length p.authenticator ≡ 16
  pub attributes : AllByRecursion IsAttribute p.attributes
  pub size : packet_length p ≤ MAX_PACKET_LENGTH
