-- A digest has sixteen octets, and a packet that has one as its Authenticator is a packet.
use Rattle.std.proofs.Common.{◌≡◌, ℕ, zero, suc, List, length, arith}
use Rattle.std.specs.Prelude.{slice_index}
use Rattle.std.specs.Int.{w32, to_le_bytes}
use Rattle.md5.specs.Md5.{digest_bytes, md5}
use Rattle.md5.proofs.StandardFacts.{length-md5}
use Rattle.roam_wire.specs.Packet.{AreOctets, Packet, IsPacket}
use Rattle.roam_wire.proofs.OctetLemmas.{AreOctets-empty, AreOctets-append}
use Rattle.roam_crypto.specs.Hmac.{hmac_md5}
use Rattle.roam_crypto.specs.Authenticators.{AreSixteenOctets, with_authenticator, signed_reply, signed_request, request_authenticator, response_authenticator}
use Rattle.roam_crypto.specs.MessageAuthenticator.{message_authenticator}

-- the four octets of a word
AreOctets-word : (n : ℕ) → AreOctets (to_le_bytes w32 n)
AreOctets-word n zero = omega arith
AreOctets-word n (suc zero) = omega arith
AreOctets-word n (suc (suc zero)) = omega arith
AreOctets-word n (suc (suc (suc zero))) = omega arith
AreOctets-word n (suc (suc (suc (suc i)))) = omega arith

AreOctets-digest : (h : List ℕ) (n : ℕ) → AreOctets (digest_bytes h n)
unfolding digest_bytes
AreOctets-digest h zero = AreOctets-empty
AreOctets-digest h (suc n) =
    AreOctets-append (digest_bytes h n) (to_le_bytes w32 (slice_index h n)) (AreOctets-digest h n)
    (AreOctets-word (slice_index h n))

pub sixteen-md5 : (m : List ℕ) → AreSixteenOctets (md5 m)
unfolding md5
sixteen-md5 m = record { size = length-md5 m; octets = AreOctets-digest _ 4 }

pub sixteen-response_authenticator : (secret request_authenticator : List ℕ) (p : Packet) →
    AreSixteenOctets (response_authenticator secret request_authenticator p)
unfolding response_authenticator
sixteen-response_authenticator secret request_authenticator p = sixteen-md5 _

pub sixteen-request_authenticator : (secret : List ℕ) (p : Packet) → AreSixteenOctets (request_authenticator secret p)
unfolding request_authenticator
sixteen-request_authenticator secret p = sixteen-md5 _

sixteen-hmac_md5 : (key message : List ℕ) → AreSixteenOctets (hmac_md5 key message)
unfolding hmac_md5
sixteen-hmac_md5 key message = sixteen-md5 _

pub sixteen-message_authenticator : (secret authenticator : List ℕ) (p : Packet) →
    AreSixteenOctets (message_authenticator secret authenticator p)
unfolding message_authenticator
sixteen-message_authenticator secret authenticator p = sixteen-hmac_md5 _ _

pub length-message_authenticator : (secret authenticator : List ℕ) (p : Packet) →
    length (message_authenticator secret authenticator p) ≡ 16
length-message_authenticator secret authenticator p = (sixteen-message_authenticator secret authenticator p).size

-- a packet with other sixteen octets for its Authenticator is a packet
pub IsPacket-with_authenticator : (field : List ℕ) (p : Packet) → AreSixteenOctets field → IsPacket p →
    IsPacket (with_authenticator field p)
IsPacket-with_authenticator field p sixteen packet = record {
  code = packet.code;
  id = packet.id;
  octets = sixteen.octets;
  authenticator = sixteen.size;
  attributes = packet.attributes;
  size = packet.size;
}

-- so what is signed is a packet
pub IsPacket-signed_reply : (secret request_authenticator : List ℕ) (p : Packet) → IsPacket p →
    IsPacket (signed_reply secret request_authenticator p)
IsPacket-signed_reply secret request_authenticator p packet =
    IsPacket-with_authenticator _ p (sixteen-response_authenticator secret request_authenticator p) packet

pub IsPacket-signed_request : (secret : List ℕ) (p : Packet) → IsPacket p → IsPacket (signed_request secret p)
IsPacket-signed_request secret p packet =
    IsPacket-with_authenticator _ p (sixteen-request_authenticator secret p) packet
