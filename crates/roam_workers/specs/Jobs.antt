-- Jobs that one worker receives and another gives to the hub, until they are given. Ours.
use Rattle.std.specs.Prelude.{◌≡◌, ◌⊎◌, ℕ, ◌+◌, List, [], ◌∷◌, ◌++◌, Some, length, map, slice_get, slice_set}
use Rattle.std.specs.declared.alloc.Global.{Global}
use Rattle.roam_conf.specs.Config.{ConfigView}
use Rattle.roam_admission.specs.Admission.{Arrival, PlainJob, admission, admitted}
use Rattle.roam_admission.specs.Shown.{shown_job}
use Rattle.roam_admission.specs.declared.job.Job.{Job}

-- ## A job queue
-- A job that is handed on is what admission gives of some datagram. All that is handed on together stands in the order
-- in which it came, behind what waits, and is counted; or it comes back whole. All that waits is taken at once,
-- from the
-- front, and counted too.
-- Source: ours
-- Rules out: a job that no datagram gives; one that overtakes another; one that gets lost on the way, or is put twice
-- Stands in: `roam_workers` `Jobs.antt`: `IsAdmitted`, `IsPutLast`, `IsPutBehind`; `QueuedJob`,
-- `WorkerJobs::set_aside`, `JobQueue::hand_on`, `JobQueue::take_over`
--
abbrev pub IsAdmitted : ConfigView → PlainJob → Type 0
IsAdmitted config job = ∥ ((d : Arrival) × (admission config d ≡ admitted job)) ∥₁

-- the jobs of what has one each
abbrev pub jobs_of : {X : Type 0} → List X → (X → Job Global) → List PlainJob
jobs_of jobs job_of = map (λ x. shown_job (job_of x)) jobs

-- a job stands behind the others that are handed on next to one worker, and nothing else changed
pub record IsPutLast {Q : Type 0} (old new : List Q) (jobs : Q → List PlainJob) (worker : ℕ) (job : PlainJob)
    : Type 0 where
  pub before : Q
  pub before_is : slice_get old worker ≡ Some before
  pub after : Q
  pub last : jobs after ≡ jobs before ++ job ∷ []
  pub others_stay : new ≡ slice_set old worker after

-- nothing is to be handed on to anyone
abbrev pub HoldsNone : {Q X : Type 0} → List Q → (Q → List X) → Type 0
HoldsNone {Q} lists items = (k : ℕ) (q : Q) → slice_get lists k ≡ Some q → items q ≡ []

-- a queue: the jobs that wait, and how many came and went
pub record Queued (X : Type 0) : Type 0 where
  pub waits : List X
  pub handed_on : ℕ
  pub taken_over : ℕ

abbrev pub queued : {X : Type 0} → List X → ℕ → ℕ → Queued X
queued waits handed_on taken_over = record { waits = waits; handed_on = handed_on; taken_over = taken_over }

-- this queue with more jobs at its end
abbrev pub with_last : {X : Type 0} → Queued X → List X → Queued X
with_last q more = queued (q.waits ++ more) (q.handed_on + length more) q.taken_over

-- all stand at the queue's end, and none is left; or all is as it was
abbrev pub IsPutBehind : {X : Type 0} → Queued X → Queued X → List X → List X → ℕ → Type 0
IsPutBehind old new more left count =
    ((new ≡ with_last old more) × (left ≡ []) × (count ≡ length more)) ⊎ ((new ≡ old) × (left ≡ more) × (count ≡ 0))

-- so many went, which are all; or none
abbrev pub HaveGone : {X : Type 0} → List X → List X → ℕ → Type 0
HaveGone old new count = ((new ≡ []) × (count ≡ length old)) ⊎ ((new ≡ old) × (count ≡ 0))
