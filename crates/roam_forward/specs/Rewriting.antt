-- A request's octets, rewritten where they lie to those of the packet that is forwarded for it (ours).
use Rattle.std.specs.Prelude.{◌≡◌, ℕ, List, length, take}
use Rattle.roam_wire.specs.Packet.{Packet}
use Rattle.roam_wire.specs.Reading.{IsPacketText, packet_of}
use Rattle.roam_forward.specs.Forwarded.{Forwarding, forwarded_length, CanBeForwarded}
use Rattle.roam_forward.specs.declared.terms.Forwarding.{Forwarding as Terms}

-- what a `Forwarding` of the code shows
abbrev pub shown : Terms → Forwarding
shown f = record {
  from_secret = f.from_secret.now;
  to_secret = f.to_secret.now;
  id = f.id;
  authenticator = f.authenticator;
  ticket = f.ticket;
}

-- the request whose octets come first
abbrev pub request_in : ℕ → List ℕ → Packet
request_in len octets = packet_of (take len octets)

-- the first octets are those of a request that can be forwarded, and there are as many in all as the
-- forwarded packet has
pub record IsRewritable (len : ℕ) (octets : List ℕ) : Type 0 where
  pub packet : IsPacketText (take len octets)
  pub can_be_forwarded : CanBeForwarded (request_in len octets)
  pub size : length octets ≡ forwarded_length (request_in len octets)
