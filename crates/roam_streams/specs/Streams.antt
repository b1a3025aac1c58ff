-- The events of one stream, and what it keeps of them (RFC 6613, section 2).
use Rattle.std.specs.Prelude.{◌≡◌, ℕ, List, [], ◌∷◌, ◌++◌}
use Rattle.roam_streams.specs.Cutting.{IsPacket}
use Rattle.roam_streams.specs.declared.stream.Stream.{Stream}

-- the octets that a stream keeps: those that came and weren't sent on, and those that are to be written
pub record Kept : Type 0 where
  pub unsent : List ℕ
  pub unwritten : List ℕ

abbrev pub kept_of : {A : Type 0} → Stream A → Kept
kept_of stream = record { unsent = stream.unsent; unwritten = stream.unwritten }

-- nothing came and nothing was put
abbrev pub none_kept : Kept
none_kept = record { unsent = []; unwritten = [] }

-- ## Event of a stream
-- Octets came; a packet was sent on; a packet was put; the system took octets to write.
-- Source: RFC 6613 section 2; the rest is ours
-- Rules out: an octet that comes or goes otherwise
-- Stands in: `roam_streams` `Streams.antt`: `StreamEvent`, `IsStep`, `Stream`
--
-- what happens on a stream
pub data StreamEvent : Type 0 where
  came : List ℕ → StreamEvent
  sent : List ℕ → StreamEvent
  put : List ℕ → StreamEvent
  wrote : List ℕ → StreamEvent

-- what an event leaves: what came stands behind the rest; a packet is sent from the front; what is put stands behind
-- the others; the first octets are written
abbrev pub IsStep : StreamEvent → Kept → Kept → Type 0
IsStep (came octets) old new = (new.unsent ≡ old.unsent ++ octets) × (new.unwritten ≡ old.unwritten)
IsStep (sent packet) old new = IsPacket packet × (old.unsent ≡ packet ++ new.unsent) × (new.unwritten ≡ old.unwritten)
IsStep (put packet) old new = (new.unsent ≡ old.unsent) × (new.unwritten ≡ old.unwritten ++ packet)
IsStep (wrote octets) old new = (new.unsent ≡ old.unsent) × (old.unwritten ≡ octets ++ new.unwritten)

-- one event after the other
abbrev pub Run : Kept → List StreamEvent → Kept → Type 0
Run old [] new = new ≡ old
Run old (event ∷ events) new = (middle : Kept) × IsStep event old middle × Run middle events new

-- the octets that came
abbrev pub received : List StreamEvent → List ℕ
received [] = []
received (came octets ∷ events) = octets ++ received events
received (sent packet ∷ events) = received events
received (put packet ∷ events) = received events
received (wrote octets ∷ events) = received events

-- the packets that were sent on, in order
abbrev pub sent_packets : List StreamEvent → List (List ℕ)
sent_packets [] = []
sent_packets (came octets ∷ events) = sent_packets events
sent_packets (sent packet ∷ events) = packet ∷ sent_packets events
sent_packets (put packet ∷ events) = sent_packets events
sent_packets (wrote octets ∷ events) = sent_packets events

-- the packets that were put, in order
abbrev pub put_packets : List StreamEvent → List (List ℕ)
put_packets [] = []
put_packets (came octets ∷ events) = put_packets events
put_packets (sent packet ∷ events) = put_packets events
put_packets (put packet ∷ events) = packet ∷ put_packets events
put_packets (wrote octets ∷ events) = put_packets events

-- the octets that were written
abbrev pub written : List StreamEvent → List ℕ
written [] = []
written (came octets ∷ events) = written events
written (sent packet ∷ events) = written events
written (put packet ∷ events) = written events
written (wrote octets ∷ events) = octets ++ written events
