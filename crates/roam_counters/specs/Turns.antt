-- The turn of a packet that is given to a realm, as it is counted. Ours.
use Rattle.std.specs.Prelude.{ℕ, Option, option_map}
use Rattle.roam_admission.specs.declared.job.Side.{Side}
use Rattle.roam_admission.specs.declared.job.Side.TheVariants as side
use Rattle.roam_counters.specs.Ends.{source_of, subject_of}
use Rattle.roam_counters.specs.Kinds.{reply_of, request_of}
use Rattle.roam_counters.specs.declared.cell.Subject.{Subject}
use Rattle.roam_counters.specs.declared.cell.Subject.TheVariants as subject
use Rattle.roam_counters.specs.declared.event.CountedEvent.{CountedEvent}
use Rattle.roam_counters.specs.declared.event.CountedEvent.TheVariants as event

-- ## Counted arrivals
-- Of a realm and of who sent it that a request or a reply came, by its code.
-- Source: ours
-- Rules out: a reply counted as a request
-- Stands in: `roam_counters` `Kinds.antt`, `Turns.antt`: `arrival_event`; `Ends.antt`: `end_at`; `Process.antt`;
-- `CountedTurn`, `end_at`
--
-- who sent it
abbrev pub sender_of : ℕ → Side → Subject
sender_of realm (side.Peer peer) = subject.Peer peer
sender_of realm (side.Link link) = subject_of realm link
sender_of realm (side.Home home) = source_of realm home

-- that it came: a reply from a link, a request from a peer or a home server
abbrev pub arrival_event : Side → ℕ → Option CountedEvent
arrival_event (side.Link link) code = option_map event.Reply (reply_of code)
arrival_event (side.Peer peer) code = option_map event.Request (request_of code)
arrival_event (side.Home server) code = option_map event.Request (request_of code)
