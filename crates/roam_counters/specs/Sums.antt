-- The sum of increments, at each place of a list of counts, and of each event of a subject. Ours.
use Rattle.std.specs.Prelude.{◌≡◌, ℕ, ◌==◌, ◌&&◌, Bool, true, false, List, Option, Some, None, if◌then◌else◌, sum_by}
use Rattle.roam_counters.specs.Cells.{cell_of, holder_of}
use Rattle.roam_counters.specs.Events.{event_place}
use Rattle.roam_counters.specs.declared.cell.Holder.{Holder}
use Rattle.roam_counters.specs.declared.cell.Holder.TheVariants as holder
use Rattle.roam_counters.specs.declared.cell.Subject.{Subject}
use Rattle.roam_counters.specs.declared.cell.Subject.TheVariants as subject
use Rattle.roam_counters.specs.declared.event.CountedEvent.{CountedEvent}
use Rattle.roam_counters.specs.declared.increments.Increment.{Increment}

-- the same list of counts
abbrev pub same_holder : Holder → Holder → Bool
same_holder holder.Server holder.Server = true
same_holder (holder.Realm r) (holder.Realm q) = r == q
same_holder (holder.Peer p) (holder.Peer q) = p == q
same_holder _ _ = false

-- the same realm, home server or peer, or all together
abbrev pub same_subject : Subject → Subject → Bool
same_subject subject.All subject.All = true
same_subject (subject.Realm r) (subject.Realm q) = r == q
same_subject (subject.Server r m) (subject.Server q n) = (r == q) && (m == n)
same_subject (subject.Peer p) (subject.Peer q) = p == q
same_subject _ _ = false

-- the same event: each has a place of its own
abbrev pub same_event : CountedEvent → CountedEvent → Bool
same_event a b = event_place a == event_place b

-- ## Sums of increments
-- Of a place of a list: what of some increments is counted there. Of an event of a subject: what of them is of that
-- subject and that event. Where the event is counted of the subject, both are one: nothing else is counted there, and
-- nothing of it elsewhere.
-- Source: ours
-- Rules out: a count that is the sum of other events, or of those of somebody else
-- Stands in: `roam_counters` `Sums.antt`: `counted`, `of_event`, `SumsAreOfEvents`; law `sums_are_of_events`
--
-- what one adds to a place
abbrev pub counted_by : Holder → ℕ → Option Increment → ℕ
counted_by h place None = 0
counted_by h place (Some i) =
    if same_holder (holder_of i.subject) h && (cell_of i.subject i.event == place) then i.count else 0

-- and to an event of a subject
abbrev pub of_event_by : Subject → CountedEvent → Option Increment → ℕ
of_event_by s e None = 0
of_event_by s e (Some i) = if same_subject i.subject s && same_event i.event e then i.count else 0

abbrev pub counted : Holder → ℕ → List (Option Increment) → ℕ
counted h place increments = sum_by (counted_by h place) increments

abbrev pub of_event : Subject → CountedEvent → List (Option Increment) → ℕ
of_event s e increments = sum_by (of_event_by s e) increments

-- what is counted where an event of a subject is, is the sum of the increments of that event and that subject
abbrev pub SumsAreOfEvents : Type 0
SumsAreOfEvents =
    (s : Subject) (e : CountedEvent) (increments : List (Option Increment)) →
    counted (holder_of s) (cell_of s e) increments ≡ of_event s e increments
