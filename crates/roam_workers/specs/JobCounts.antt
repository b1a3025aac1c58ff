-- Jobs that workers hand on and take over, counted for each queue. Ours.
use Rattle.std.specs.Prelude.{◌≡◌, ℕ, ◌+◌, ◌%◌, ◌^◌, ◌<◌, ◌≤◌, List, [], ◌∷◌, length, Some, slice_get, slice_index_or, slice_set}
use Rattle.roam_workers.specs.declared.job_counts.JobCounts.{JobCounts}

abbrev pub none : JobCounts
none = record { handed_on = 0; taken_over = 0 }

-- together, modulo 2^64
abbrev pub both : JobCounts → JobCounts → JobCounts
both a b = record {
  handed_on = (a.handed_on + b.handed_on) % 2 ^ 64;
  taken_over = (a.taken_over + b.taken_over) % 2 ^ 64;
}

-- the count of one queue rises, where there is such a queue, and no other one
pub record IsRaisedAt (old new : List JobCounts) (queue : ℕ) (more : JobCounts) : Type 0 where
  pub raised : (count : JobCounts) → slice_get old queue ≡ Some count → new ≡ slice_set old queue (both count more)
  pub others : length old ≤ queue → new ≡ old

-- what one thread counted of a queue
abbrev pub counts_at : ℕ → List JobCounts → JobCounts
counts_at queue counts = slice_index_or counts queue none

-- what several threads counted of it beside this; each of them has a list of what it counted
abbrev pub with_threads : {X : Type 0} → (X → List JobCounts) → ℕ → JobCounts → List X → JobCounts
with_threads counts_of queue so_far [] = so_far
with_threads counts_of queue so_far (x ∷ xs) =
    with_threads counts_of queue (both so_far (counts_at queue (counts_of x))) xs

abbrev pub of_threads : {X : Type 0} → (X → List JobCounts) → ℕ → List X → JobCounts
of_threads counts_of queue threads = with_threads counts_of queue none threads

-- ## Jobs between workers, audited
-- Once all threads have ended, of each queue as many jobs were taken over as were handed on to it, of all threads
-- together, modulo 2^64.
-- Source: ours
-- Rules out: a job that is lost between two workers, or that two of them get
-- Stands in: `roam_workers` `JobCounts.antt`: `AreAllTaken`; `JobQueue`: `balanced`; `audit_jobs`
--
abbrev pub AreAllTaken : {X : Type 0} → (X → List JobCounts) → ℕ → List X → Type 0
AreAllTaken counts_of queues threads =
    (queue : ℕ) → queue < queues
    → (of_threads counts_of queue threads).handed_on ≡ (of_threads counts_of queue threads).taken_over
