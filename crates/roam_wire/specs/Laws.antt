-- Laws of reading and of packets' octets (RFC 2865, section 3). Each is a clause of a function of
-- src/laws.rt.
use Rattle.std.specs.Prelude.{◌≡◌, ◌↔◌, ℕ, List, length, Ok}
use Rattle.roam_wire.specs.Packet.{AreOctets, Packet, IsPacket, packet_text, packet_length}
use Rattle.roam_wire.specs.Reading.{IsPacketText, ReadsAs, packet_of, reading}

-- the function that says what reading answers says that a datagram is a packet just where it reads as
-- that packet
abbrev pub ReadingIsRight : Type 0
ReadingIsRight = (datagram : List ℕ) (p : Packet) → AreOctets datagram →
    (reading datagram ≡ Ok p) ↔ ReadsAs datagram p

-- a packet's octets read as it
abbrev pub PacketTextReads : Type 0
PacketTextReads = (p : Packet) → IsPacket p → ReadsAs (packet_text p) p

-- and as no other
abbrev pub PacketTextIsReadAgain : Type 0
PacketTextIsReadAgain = (p : Packet) → IsPacket p → packet_of (packet_text p) ≡ p

-- they are a packet's octets
abbrev pub PacketTextIsOfPacket : Type 0
PacketTextIsOfPacket = (p : Packet) → IsPacket p → IsPacketText (packet_text p)

-- as many as its length says
abbrev pub PacketTextHasLength : Type 0
PacketTextHasLength = (p : Packet) → IsPacket p → length (packet_text p) ≡ packet_length p

-- each of them is an octet
abbrev pub PacketTextIsOctets : Type 0
PacketTextIsOctets = (p : Packet) → IsPacket p → AreOctets (packet_text p)
