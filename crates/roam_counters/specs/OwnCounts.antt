-- The counts of one thread. Ours.
use Rattle.std.specs.Prelude.{◌≡◌, ℕ, ◌+◌, ◌%◌, ◌^◌, ◌<◌, List, [], length, Option, Some, None, fold, slice_index_or, slice_set}
use Rattle.roam_counters.specs.Cells.{cell_of, holder_of}
use Rattle.roam_counters.specs.Sums.{of_event}
use Rattle.roam_counters.specs.declared.cell.Holder.{Holder}
use Rattle.roam_counters.specs.declared.cell.Holder.TheVariants as holder
use Rattle.roam_counters.specs.declared.cell.Subject.{Subject}
use Rattle.roam_counters.specs.declared.event.CountedEvent.{CountedEvent}
use Rattle.roam_counters.specs.declared.increments.Increment.{Increment}

-- the server's list, and that of each realm and each peer, by index
pub record CountsView : Type 0 where
  pub server : List ℕ
  pub realms : List (List ℕ)
  pub peers : List (List ℕ)

-- the list of a holder; none where nothing is counted of it
abbrev pub list_of : CountsView → Holder → List ℕ
list_of c holder.Server = c.server
list_of c (holder.Realm realm) = slice_index_or c.realms realm []
list_of c (holder.Peer peer) = slice_index_or c.peers peer []

-- a list in which the count at a place rises, if there is one: it begins again at 0 after 2^64 - 1
abbrev pub raised_at : List ℕ → ℕ → ℕ → List ℕ
raised_at counts place more = slice_set counts place ((slice_index_or counts place 0 + more) % 2 ^ 64)

-- the same in the list of this number
abbrev pub raised_in : List (List ℕ) → ℕ → ℕ → ℕ → List (List ℕ)
raised_in lists number place more = slice_set lists number (raised_at (slice_index_or lists number []) place more)

-- ## A thread's own counts
-- Each increment raises the count at its subject's and event's place, and no other: so each count is the sum of the
-- increments of its event and its subject that the thread was told, above what it began with, modulo 2^64.
-- Source: ours
-- Rules out: an increment that is lost or counted twice; a count that rises by another's
-- Stands in: `roam_counters` `OwnCounts.antt`: `raised`, `raised_all`, `CountsAreSums`; `OwnCounts::raise`; law
-- `counts_are_sums`
--
-- the count at a place of a list rises
abbrev pub raised : CountsView → Holder → ℕ → ℕ → CountsView
raised c holder.Server place more =
    record { server = raised_at c.server place more; realms = c.realms; peers = c.peers }
raised c (holder.Realm realm) place more =
    record { server = c.server; realms = raised_in c.realms realm place more; peers = c.peers }
raised c (holder.Peer peer) place more =
    record { server = c.server; realms = c.realms; peers = raised_in c.peers peer place more }

-- by one increment, if it is one
abbrev pub raised_by : CountsView → Option Increment → CountsView
raised_by c None = c
raised_by c (Some i) = raised c (holder_of i.subject) (cell_of i.subject i.event) i.count

-- by all of some
abbrev pub raised_all : CountsView → List (Option Increment) → CountsView
raised_all c increments = fold raised_by c increments

-- the count of an event of a subject
abbrev pub count_of : CountsView → Subject → CountedEvent → ℕ
count_of c s e = slice_index_or (list_of c (holder_of s)) (cell_of s e) 0

-- where an event is counted of a subject at all, its count rises by the increments of that event and that subject
abbrev pub CountsAreSums : Type 0
CountsAreSums =
    (c : CountsView) (s : Subject) (e : CountedEvent) (increments : List (Option Increment)) →
    cell_of s e < length (list_of c (holder_of s)) → count_of c s e < 2 ^ 64 →
    count_of (raised_all c increments) s e ≡ (count_of c s e + of_event s e increments) % 2 ^ 64
