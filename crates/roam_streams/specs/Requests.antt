-- Requests of a taken connection on their way to the broker, and those on a dialed one on their way to a home server
-- (RFC 6613, section 2).
use Rattle.std.specs.Prelude.{◌≡◌, ◌≢◌, ◌⊎◌, ℕ, ◌-◌, ◌<◌, ◌≤◌, List, [], ◌∷◌, take, drop, length, slice_index, slice_set, slice_index_or, Option, Some, None, unwrap_or, replicate, ◌==◌, Bool, true, false, if◌then◌else◌}
use Rattle.roam_streams.specs.Cutting.{IsPacket, IsUnfinished}
use Rattle.roam_streams.specs.Streams.{Kept, IsStep, put, sent}
use Rattle.roam_streams.specs.Waits.{IsWaitStep, used, free_at}
use Rattle.roam_streams.specs.declared.dialed_stream.Destination.{Destination}
use Rattle.roam_streams.specs.declared.dialed_stream.Destination.TheVariants as destination
use Rattle.roam_streams.specs.declared.identifier_waits.IdentifierWaits.{IdentifierWaits}
use Rattle.roam_streams.specs.declared.identifier_waits.Way.{Way}
use Rattle.roam_streams.specs.declared.identifier_waits.Way.TheVariants as way
use Rattle.roam_streams.specs.declared.taken_stream.Next.{Next}
use Rattle.roam_streams.specs.declared.taken_stream.Next.TheVariants as next

-- an Accounting-Request goes to `acct`, each other packet to `auth`
abbrev pub way_of_code : ℕ → Way
way_of_code code = if code == 4 then way.Acct else way.Auth

-- ## Next packet of a taken connection
-- The packet at the front goes to `acct` where its code is 4, else to `auth`, where its Identifier is free there;
-- else it waits, and all behind it.
-- Source: RFC 6613 section 2; the wait is ours
-- Rules out: a packet that passes another; one that is sent twice
-- Stands in: `roam_streams` `Requests.antt`: `GivesNext`; `TakenStream::next`
--
-- what is done with the packet at the front at a moment, and what that leaves
abbrev pub GivesNext : ℕ → List ℕ → Next → Kept → Kept → IdentifierWaits → IdentifierWaits → Type 0
GivesNext now packet (next.Send to) old new waits left =
    (to ≡ way_of_code (slice_index old.unsent 0))
    × IsStep (sent packet) old new
    × IsWaitStep (used to (slice_index old.unsent 1) now) waits left
GivesNext now packet next.Wait old new waits left =
    (now < free_at waits (way_of_code (slice_index old.unsent 0)) (slice_index old.unsent 1))
    × (new ≡ old) × (left ≡ waits)
GivesNext now packet next.Nothing old new waits left = IsUnfinished old.unsent × (new ≡ old) × (left ≡ waits)

-- since when the packet at the front is unfinished, where these octets are less than a packet
abbrev pub unfinished_after : List ℕ → Option ℕ → ℕ → Option ℕ
unfinished_after octets since now = if length octets == 0 then None else Some (unwrap_or since now)

-- no packet came for `idle` ms, or one is unfinished for 10,000 ms
abbrev pub IsSilent : ℕ → ℕ → ℕ → Option ℕ → Type 0
IsSilent now idle packet_at None = idle ≤ now - packet_at
IsSilent now idle packet_at (Some since) = (idle ≤ now - packet_at) ⊎ (10000 ≤ now - since)

-- a Disconnect- or CoA-Request of a home server goes to the realm's socket for these, each other packet to the one
-- from which the realm's requests come
abbrev pub destination_of_code : ℕ → Destination
destination_of_code code =
    if code == 40 then destination.Reverse else if code == 43 then destination.Reverse else destination.Out

-- what is done with the packet at the front of a dialed connection, and what that leaves
abbrev pub GivesNextReply : List ℕ → Option Destination → Kept → Kept → Type 0
GivesNextReply packet (Some to) old new =
    (to ≡ destination_of_code (slice_index old.unsent 0)) × IsStep (sent packet) old new
GivesNextReply packet None old new = IsUnfinished old.unsent × (new ≡ old)

-- an Access-Request or an Accounting-Request
abbrev pub IsRequestCode : ℕ → Type 0
IsRequestCode code = (code ≡ 1) ⊎ (code ≡ 4)

abbrev pub IsRequest : List ℕ → Type 0
IsRequest datagram = IsPacket datagram × IsRequestCode (slice_index datagram 0)

-- the Authenticator of the last request with each Identifier that was put on a connection
abbrev pub none_put : List (Option (List ℕ))
none_put = replicate 256 None

-- the Authenticator (RFC 2865, section 3)
abbrev pub authenticator_of : List ℕ → List ℕ
authenticator_of packet = take 16 (drop 4 packet)

-- the one that was put last with an Identifier
abbrev pub last_at : List (Option (List ℕ)) → ℕ → Option (List ℕ)
last_at last id = slice_index_or last id None

-- ## A request once on a connection
-- A request is put on a dialed connection where the last one with its Identifier that was put there had another
-- Authenticator: what the broker sends again is the same octets, and a stream loses nothing.
-- Source: RFC 6613 section 2.6.1
-- Rules out: one request twice on one connection
-- Stands in: `roam_streams` `Requests.antt`: `PutsRequest`, `IsRequestStep`; `DialedStream::put_request`;
-- `laws::repeating`
--
-- a request is put that isn't the last one with its Identifier, and is it from then on
pub record IsRequestStep (packet : List ℕ) (last new : List (Option (List ℕ))) : Type 0 where
  pub octet : slice_index packet 1 < 256
  pub other : last_at last (slice_index packet 1) ≢ Some (authenticator_of packet)
  pub after : new ≡ slice_set last (slice_index packet 1) (Some (authenticator_of packet))

-- whether a request was put, and what that leaves
abbrev pub PutsRequest : List ℕ → Bool → Kept → Kept → List (Option (List ℕ)) → List (Option (List ℕ)) → Type 0
PutsRequest packet true old new last left = IsStep (put packet) old new × IsRequestStep packet last left
PutsRequest packet false old new last left =
    (last_at last (slice_index packet 1) ≡ Some (authenticator_of packet)) × (new ≡ old) × (left ≡ last)

-- octets are awaited for so long
abbrev pub IsAwaited : Option ℕ → ℕ → ℕ → Type 0
IsAwaited None now silence = ⊥
IsAwaited (Some since) now silence = silence ≤ now - since

-- one request after the other
abbrev pub RequestRun : List (Option (List ℕ)) → List (List ℕ) → List (Option (List ℕ)) → Type 0
RequestRun old [] new = new ≡ old
RequestRun old (packet ∷ packets) new =
    (middle : List (Option (List ℕ))) × IsRequestStep packet old middle × RequestRun middle packets new

-- the next request with an Identifier has another Authenticator
abbrev pub HasOtherNext : ℕ → List ℕ → List (List ℕ) → Type 0
HasOtherNext id authenticator [] = Unit {0}
HasOtherNext id authenticator (packet ∷ packets) =
    (slice_index packet 1 ≡ id → authenticator_of packet ≢ authenticator)
    × (slice_index packet 1 ≢ id → HasOtherNext id authenticator packets)

-- no two in a row under one Identifier have one Authenticator
abbrev pub NoneRepeated : List (List ℕ) → Type 0
NoneRepeated [] = Unit {0}
NoneRepeated (packet ∷ packets) =
    HasOtherNext (slice_index packet 1) (authenticator_of packet) packets × NoneRepeated packets
