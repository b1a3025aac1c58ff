-- Octets that come on a stream, cut into packets (RFC 6613, section 2; RFC 2865, section 3).
use Rattle.std.specs.Prelude.{◌≡◌, ◌⊎◌, ℕ, ◌<◌, ◌≤◌, List, ◌++◌, length}
use Rattle.std.specs.List.{flat_map, AllByRecursion}
use Rattle.roam_wire.specs.Reading.{length_field}
use Rattle.roam_streams.specs.declared.front.Front.{Front}
use Rattle.roam_streams.specs.declared.front.Front.TheVariants as front

-- ## Packet on a stream
-- 20 to 4096 octets, as many as its Length says.
-- Source: RFC 2865 section 3
-- Rules out: a packet that is cut at another octet
-- Stands in: `roam_streams` `Cutting.antt`: `IsPacket`; `front_of`, `is_packet`
--
-- octets that are one packet
pub record IsPacket (octets : List ℕ) : Type 0 where
  pub at_least_20 : 20 ≤ length octets
  pub at_most_4096 : length octets ≤ 4096
  pub size : length_field octets ≡ length octets

-- a Length that a packet may have
pub record HasLength (octets : List ℕ) : Type 0 where
  pub at_least_20 : 20 ≤ length_field octets
  pub at_most_4096 : length_field octets ≤ 4096

-- less than a packet, which may become one
abbrev pub IsUnfinished : List ℕ → Type 0
IsUnfinished octets = (length octets < 4) ⊎ (HasLength octets × (length octets < length_field octets))

-- no packet, however it goes on: its Length is below 20 or above 4096
abbrev pub IsFaulty : List ℕ → Type 0
IsFaulty octets = (4 ≤ length octets) × ((length_field octets < 20) ⊎ (4096 < length_field octets))

-- no packet stands at the front
abbrev pub HasNoPacket : List ℕ → Type 0
HasNoPacket octets = IsUnfinished octets ⊎ IsFaulty octets

-- octets one behind the other
abbrev pub joined : List (List ℕ) → List ℕ
joined packets = flat_map (λ p. p) packets

-- ## Cutting
-- Octets are packets, one behind the other, and behind them a rest at whose front no packet stands: it is unfinished,
-- or faulty. The relation asks whether such packets are there, and not how one looks for them.
-- Source: RFC 6613 section 2; RFC 2865 section 3
-- Rules out: a packet cut at the wrong octet; a rest that is lost
-- Stands in: `roam_streams` `Cutting.antt`: `Cuts`; `laws::cutting`
--
-- these packets, and behind them this rest
pub record Cuts (octets : List ℕ) (packets : List (List ℕ)) (rest : List ℕ) : Type 0 where
  pub whole : octets ≡ joined packets ++ rest
  pub each : AllByRecursion IsPacket packets
  pub ends : HasNoPacket rest

-- what a look at the front finds
abbrev pub IsFront : List ℕ → Front → Type 0
IsFront octets (front.Packet size) = HasLength octets × (size ≡ length_field octets) × (size ≤ length octets)
IsFront octets front.Unfinished = IsUnfinished octets
IsFront octets front.Faulty = IsFaulty octets
