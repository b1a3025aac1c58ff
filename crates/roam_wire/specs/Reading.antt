-- The reading of a datagram (RFC 2865, section 3).
use Rattle.std.specs.Prelude.{◌≡◌, ℕ, zero, suc, ◌+◌, ◌-◌, ◌*◌, ◌≤◌, List, [], ◌∷◌, length, take, drop, Option, Some, None, option_map, option_and_then, unwrap_or, nat_le, ◌&&◌, Bool, if◌then◌else◌, slice_index}
use Rattle.std.specs.Prelude.{nat_lt, Result, Ok, Err}
use Rattle.std.specs.Option.{option_map_or}
use Rattle.roam_wire.specs.Packet.{Attribute, Packet, IsPacket, packet_text}
use Rattle.roam_wire.specs.declared.refusal.Refusal.{Refusal}
use Rattle.roam_wire.specs.declared.refusal.Refusal.TheVariants as refusal
use Rattle.roam_wire.specs.declared.packet_size.TheConstants.{MAX_PACKET_LENGTH}

-- the Length field of a datagram: two octets, the high one first (RFC 2865, section 3)
abbrev pub length_field : List ℕ → ℕ
length_field datagram = 256 * slice_index datagram 2 + slice_index datagram 3

-- Length is from 20 to 4096, and all those octets came (RFC 2865, section 3)
pub record HasLength (datagram : List ℕ) : Type 0 where
  pub at_least_header : 20 ≤ length_field datagram
  pub at_most_4096 : length_field datagram ≤ MAX_PACKET_LENGTH
  pub all_came : length_field datagram ≤ length datagram

-- ## Reads as
-- A datagram of at least 20 octets reads as a packet where its first octets, as many as its Length field says,
-- are the packet's text. What stands behind them is padding. It asks whether a packet exists, and not how one
-- looks for it.
-- Source: RFC 2865 section 3
-- Rules out: padding read as attributes; an attribute of length 0 or 1; an attribute that passes the end
-- Stands in: `roam_wire` `Reading.antt`: `ReadsAs`, `Reads`, `HasLength`; `View::read`
--
-- a datagram reads as a packet where its first octets, as many as its Length field says, are the
-- packet's octets; the octets behind them are padding (RFC 2865, section 3)
pub record ReadsAs (datagram : List ℕ) (p : Packet) : Type 0 where
  pub has_header : 20 ≤ length datagram
  pub packet : IsPacket p
  pub front : take (length_field datagram) datagram ≡ packet_text p

-- some packet is what the datagram reads as
pub record Reads (datagram : List ℕ) : Type 0 where
  pub packet : Packet
  pub reads : ReadsAs datagram packet

-- The rest computes the packet of octets that are a packet's: no contract rests on it alone, for
-- `View::read` ensures that it is what the datagram reads as.

-- the attribute at the front, and the octets behind it
abbrev pub attribute_at : List ℕ → Option (Attribute × List ℕ)
attribute_at [] = None
attribute_at (kind ∷ []) = None
attribute_at (kind ∷ n ∷ rest) =
    if nat_le 2 n && nat_le n (length rest + 2)
    then Some (record { kind = kind; value = take (n - 2) rest }, drop (n - 2) rest)
    else None

-- an attribute before those that follow it
abbrev pub with_first : Attribute → Option (List Attribute) → Option (List Attribute)
with_first a others = option_map (λ more. a ∷ more) others

-- octets as attributes, at most so many
unfoldable pub attributes_within : ℕ → List ℕ → Option (List Attribute)
attributes_within n [] = Some []
attributes_within zero (b ∷ bs) = None
attributes_within (suc n) (b ∷ bs) =
    option_and_then (λ x. with_first x.0 (attributes_within n x.1)) (attribute_at (b ∷ bs))

-- octets as attributes, all of them
unfoldable pub attributes_of : List ℕ → Option (List Attribute)
attributes_of octets = attributes_within (length octets) octets

-- the packet of octets that are a packet's
unfoldable pub packet_of : List ℕ → Packet
packet_of octets = record {
  code = slice_index octets 0;
  id = slice_index octets 1;
  authenticator = take 16 (drop 4 octets);
  attributes = unwrap_or (attributes_of (drop 20 octets)) [];
}

-- octets that are a packet's
pub record IsPacketText (octets : List ℕ) : Type 0 where
  pub packet : IsPacket (packet_of octets)
  pub spelt : octets ≡ packet_text (packet_of octets)

-- the octets of a datagram up to its Length
abbrev pub front_of : List ℕ → List ℕ
front_of datagram = take (length_field datagram) datagram

-- whether Length is from 20 to 4096 and all those octets came, as a test
abbrev pub has_length : List ℕ → Bool
has_length datagram =
    nat_le 20 (length_field datagram) && nat_le (length_field datagram) MAX_PACKET_LENGTH
    && nat_le (length_field datagram) (length datagram)

-- what reading a datagram answers, as a function, for definitions that go on from it. What it means is
-- said by the contract of `View::read`, which answers it: the packet that the datagram reads as, or the
-- first refusal whose cause holds
unfoldable pub reading : List ℕ → Result Packet Refusal
reading datagram =
    if nat_lt (length datagram) 20 then Err refusal.Short
    else if has_length datagram
    then option_map_or (λ all. Ok (packet_of (front_of datagram)))
    (attributes_of (drop 20 (front_of datagram))) (Err refusal.BadAttribute)
    else Err refusal.BadLength
