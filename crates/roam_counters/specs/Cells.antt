-- The place of each count: the server, each realm and each peer has a list of its own. Ours.
use Rattle.std.specs.Prelude.{ℕ, ◌+◌, ◌*◌, ◌<◌}
use Rattle.roam_counters.specs.Events.{event_place}
use Rattle.roam_counters.specs.Process.{process_place}
use Rattle.roam_counters.specs.declared.cell.Holder.{Holder}
use Rattle.roam_counters.specs.declared.cell.Holder.TheVariants as holder
use Rattle.roam_counters.specs.declared.cell.Subject.{Subject}
use Rattle.roam_counters.specs.declared.cell.Subject.TheVariants as subject
use Rattle.roam_counters.specs.declared.event.CountedEvent.{CountedEvent}
use Rattle.roam_counters.specs.declared.process.Process.{Process}

-- ## Places of counts
-- Each count has a place of its own: in the server's list its own counts, and then those of all together; in a realm's
-- a row for itself and one for each home server; in a peer's a row.
-- Source: ours
-- Rules out: two counts in one
-- Stands in: `roam_counters` `Events.antt`, `Cells.antt`: `holder_of`, `cell_of`; `Apart.antt`: `CellsAreApart`;
-- `Subject::holder`, `Subject::cell`
--
-- how many a list has
abbrev pub cells : Holder → ℕ
cells holder.Server = 122
cells (holder.Realm realm) = 1030
cells (holder.Peer peer) = 103

-- in whose list the events of a subject are counted
abbrev pub holder_of : Subject → Holder
holder_of subject.All = holder.Server
holder_of (subject.Realm realm) = holder.Realm realm
holder_of (subject.Server realm server) = holder.Realm realm
holder_of (subject.Peer peer) = holder.Peer peer

-- where they begin there
abbrev pub first_cell : Subject → ℕ
first_cell subject.All = 19
first_cell (subject.Realm realm) = 0
first_cell (subject.Server realm server) = 103 * (server + 1)
first_cell (subject.Peer peer) = 0

abbrev pub cell_of : Subject → CountedEvent → ℕ
cell_of subject event = first_cell subject + event_place event

abbrev pub process_cell : Process → ℕ
process_cell process = process_place process

-- a subject that has a place: of what sends to a realm the first nine
abbrev pub HasPlace : Subject → Type 0
HasPlace subject.All = Unit {0}
HasPlace (subject.Realm realm) = Unit {0}
HasPlace (subject.Server realm server) = server < 9
HasPlace (subject.Peer peer) = Unit {0}
