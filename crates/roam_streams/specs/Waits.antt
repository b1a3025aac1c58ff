-- From when on an Identifier may be used again toward the broker (RFC 2865, section 3; the wait is ours).
use Rattle.std.specs.Prelude.{◌≡◌, ℕ, ◌+◌, ◌-◌, ◌^◌, ◌<◌, ◌≤◌, min, List, [], ◌∷◌, slice_index, slice_set, replicate}
use Rattle.roam_streams.specs.declared.identifier_waits.IdentifierWaits.{IdentifierWaits}
use Rattle.roam_streams.specs.declared.identifier_waits.Way.{Way}
use Rattle.roam_streams.specs.declared.identifier_waits.Way.TheVariants as way

abbrev pub none_waits : IdentifierWaits
none_waits = record { auth = replicate 256 0; acct = replicate 256 0 }

-- the moment from which on an Identifier may be used again
abbrev pub free_at : IdentifierWaits → Way → ℕ → ℕ
free_at waits way.Auth id = slice_index waits.auth id
free_at waits way.Acct id = slice_index waits.acct id

-- the waits with another such moment
abbrev pub with_free_at : IdentifierWaits → Way → ℕ → ℕ → IdentifierWaits
with_free_at waits way.Auth id moment = record { auth = slice_set waits.auth id moment; acct = waits.acct }
with_free_at waits way.Acct id moment = record { auth = waits.auth; acct = slice_set waits.acct id moment }

-- the end of a wait that begins now: 1,000 ms later
abbrev pub held_until : ℕ → ℕ
held_until now = min (2 ^ 64 - 1) (now + 1000)

-- ## Wait of an Identifier
-- A packet of a taken connection is sent to the broker where none with its Identifier was sent there in the last
-- 1,000 ms, or a datagram with that Identifier came back from there since.
-- Source: ours
-- Rules out: a client that fills the broker's socket with requests, so that those of others are lost
-- Stands in: `roam_streams` `Waits.antt`: `IsWaitStep`, `AreSpaced`; `TakenStream::next`, `TakenStream::reply`;
-- `laws::spacing`
--
-- what happens to the waits of a connection: a packet with an Identifier is sent at a moment, or one comes back
pub data WaitEvent : Type 0 where
  used : Way → ℕ → ℕ → WaitEvent
  back : Way → ℕ → WaitEvent

-- where a packet is sent its Identifier is free by then, and waits from then on
abbrev pub IsWaitStep : WaitEvent → IdentifierWaits → IdentifierWaits → Type 0
IsWaitStep (used way id now) old new =
    (id < 256) × (free_at old way id ≤ now) × (new ≡ with_free_at old way id (held_until now))
IsWaitStep (back way id) old new = (id < 256) × (new ≡ with_free_at old way id 0)

-- one event after the other
abbrev pub WaitRun : IdentifierWaits → List WaitEvent → IdentifierWaits → Type 0
WaitRun old [] new = new ≡ old
WaitRun old (event ∷ events) new =
    (middle : IdentifierWaits) × IsWaitStep event old middle × WaitRun middle events new

-- the next use of an Identifier isn't before a moment, where it didn't come back before
abbrev pub IsNotUsedBefore : Way → ℕ → ℕ → List WaitEvent → Type 0
IsNotUsedBefore to id until [] = Unit {0}
IsNotUsedBefore to id until (used way other now ∷ events) =
    ((way ≡ to) × (other ≡ id) → until ≤ now)
    × (¬ ((way ≡ to) × (other ≡ id)) → IsNotUsedBefore to id until events)
IsNotUsedBefore to id until (back way other ∷ events) =
    ¬ ((way ≡ to) × (other ≡ id)) → IsNotUsedBefore to id until events

-- between two uses of an Identifier there are 1,000 ms, or it came back
abbrev pub AreSpaced : List WaitEvent → Type 0
AreSpaced [] = Unit {0}
AreSpaced (used way id now ∷ events) = IsNotUsedBefore way id (held_until now) events × AreSpaced events
AreSpaced (back way id ∷ events) = AreSpaced events
