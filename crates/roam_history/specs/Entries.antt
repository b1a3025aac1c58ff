-- The entries of the one history of a shard (ours): its steps, where the stored ones were let go of, and that it is
-- closed.
use Rattle.std.specs.Prelude.{◌≡◌, ◌+◌, ℕ, Bool, true, false, List, [], ◌∷◌, ◌++◌, Option, Some, None}
use Rattle.roam_core.specs.Events.{PlainEvent}
use Rattle.roam_shard.specs.Steps.{PlainAnswer, PlainStep}

-- ## One history of a shard
-- Entries from the hub's opening on, each a step, or the mark that the stored ones were let go of. What is
-- stored are the steps since the last mark. It exists in proofs alone, and entries are added at its end and
-- nowhere else; a front is a beginning of it that was seen, and of two fronts one begins with the other. Which
-- ghost book it is follows from what the hub was opened with.
-- Source: ours
-- Rules out: a call that answers from a history of its own; steps that are invented at the end
-- Stands in: `roam_history` `Entries.antt`: `HistoryEntry`, `steps_in`, `times_let_go`, `stored_of`, `gone_of`;
-- `Rules.antt`: `IsKept`, `Adds`; `Fronts.antt`: `FrontView`, `AreOfShards`; `Books.antt`: `books_of`;
-- `Front::with_step`, `without_steps`, `begins`
--
-- an entry: a step; or that the steps that were stored were let go of; or that the history is closed
abbrev pub HistoryEntry : Type 0
HistoryEntry = Option (Option PlainStep)

abbrev pub step_entry : PlainStep → HistoryEntry
step_entry s = Some (Some s)

abbrev pub let_go_entry : HistoryEntry
let_go_entry = Some None

abbrev pub closed_entry : HistoryEntry
closed_entry = None

-- all steps
abbrev pub steps_in : List HistoryEntry → List PlainStep
steps_in [] = []
steps_in (Some (Some s) ∷ es) = s ∷ steps_in es
steps_in (Some None ∷ es) = steps_in es
steps_in (None ∷ es) = steps_in es

-- how often the stored ones were let go of
abbrev pub times_let_go : List HistoryEntry → ℕ
times_let_go [] = 0
times_let_go (Some (Some s) ∷ es) = times_let_go es
times_let_go (Some None ∷ es) = times_let_go es + 1
times_let_go (None ∷ es) = times_let_go es

-- the stored steps after some entries, where these ones were stored before
abbrev pub stored_after : List PlainStep → List HistoryEntry → List PlainStep
stored_after stored [] = stored
stored_after stored (Some (Some s) ∷ es) = stored_after (stored ++ s ∷ []) es
stored_after stored (Some None ∷ es) = stored_after [] es
stored_after stored (None ∷ es) = stored_after stored es

-- the stored steps: those since they were let go of last
abbrev pub stored_of : List HistoryEntry → List PlainStep
stored_of es = stored_after [] es

-- the steps that were let go of after some entries, where these ones had been and those were stored
abbrev pub gone_after : List PlainStep → List PlainStep → List HistoryEntry → List PlainStep
gone_after gone stored [] = gone
gone_after gone stored (Some (Some s) ∷ es) = gone_after gone (stored ++ s ∷ []) es
gone_after gone stored (Some None ∷ es) = gone_after (gone ++ stored) [] es
gone_after gone stored (None ∷ es) = gone_after gone stored es

-- the steps that were let go of
abbrev pub gone_of : List HistoryEntry → List PlainStep
gone_of es = gone_after [] [] es

-- the entry of the last of some events, with this answer; where there is none, one that is no step's
abbrev pub last_of : List PlainEvent → PlainAnswer → HistoryEntry
last_of [] answer = let_go_entry
last_of (e ∷ []) answer = step_entry (record { event = e; answer = answer })
last_of (e ∷ f ∷ es) answer = last_of (f ∷ es) answer

-- no entry says that the history is closed
abbrev pub IsOpen : List HistoryEntry → Type 0
IsOpen [] = Unit {0}
IsOpen (Some e ∷ es) = IsOpen es
IsOpen (None ∷ es) = ⊥

-- nothing stands after the entry that says so
abbrev pub ClosesLast : List HistoryEntry → Type 0
ClosesLast [] = Unit {0}
ClosesLast (Some e ∷ es) = ClosesLast es
ClosesLast (None ∷ es) = es ≡ []

-- the history is whole: its last entry says so
abbrev pub is_closed : HistoryEntry → Bool
is_closed None = true
is_closed (Some e) = false

abbrev pub is_whole : List HistoryEntry → Bool
is_whole [] = false
is_whole (e ∷ []) = is_closed e
is_whole (e ∷ f ∷ es) = is_whole (f ∷ es)

abbrev pub IsWhole : List HistoryEntry → Type 0
IsWhole es = is_whole es ≡ true
