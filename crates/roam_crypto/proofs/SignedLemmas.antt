-- A packet that is sealed and then signed.
use Rattle.std.proofs.Common.{◌≡◌, ℕ, List, ◌∙◌, ap}
use Rattle.roam_wire.specs.Packet.{Packet, IsPacket, packet_text}
use Rattle.roam_wire.specs.Reading.{IsPacketText, packet_of}
use Rattle.roam_wire.proofs.LawLemmas.{IsPacketText-packet_text, packet_of-packet_text}
use Rattle.roam_crypto.specs.MessageAuthenticator.{HasAtMostOneMessageAuthenticator, message_authenticator, with_message_authenticator}
use Rattle.roam_crypto.proofs.ValueLemmas.{IsPacket-with_value}
use Rattle.roam_crypto.proofs.DigestLemmas.{sixteen-message_authenticator}

-- a sealed packet is a packet
pub IsPacket-sealed : (secret authenticator : List ℕ) (p : Packet) → HasAtMostOneMessageAuthenticator p → IsPacket p
    → IsPacket (with_message_authenticator secret authenticator p)
IsPacket-sealed secret authenticator p h packet =
    IsPacket-with_value (message_authenticator secret authenticator p) p
    (sixteen-message_authenticator secret authenticator p) h packet

-- so its octets are a packet's
pub IsPacketText-sealed : (secret authenticator : List ℕ) (p : Packet) → HasAtMostOneMessageAuthenticator p →
    IsPacket p → IsPacketText (packet_text (with_message_authenticator secret authenticator p))
IsPacketText-sealed secret authenticator p h packet =
    IsPacketText-packet_text (with_message_authenticator secret authenticator p)
    (IsPacket-sealed secret authenticator p h packet)

-- and they read as it
pub packet_of-sealed : (secret authenticator octets : List ℕ) (p : Packet) → HasAtMostOneMessageAuthenticator p →
    IsPacket p → octets ≡ packet_text (with_message_authenticator secret authenticator p) →
    packet_of octets ≡ with_message_authenticator secret authenticator p
packet_of-sealed secret authenticator octets p h packet text =
    ap packet_of text ∙ packet_of-packet_text (with_message_authenticator secret authenticator p)
    (IsPacket-sealed secret authenticator p h packet)
