-- Jobs that one worker receives and another gives to the hub. Ours.
use Rattle.std.specs.Prelude.{◌≡◌, ◌⊎◌, ℕ, ◌%◌, List, [], ◌∷◌, length}
use Rattle.std.specs.declared.alloc.Global.{Global}
use Rattle.roam_conf.specs.declared.exchange_lines.ExchangeLines.{ExchangeLines}
use Rattle.roam_admission.specs.Admission.{Arrival, PlainJob, admission, admitted}
use Rattle.roam_history.specs.HubOpening.{HubOpening}
use Rattle.roam_history.specs.Seats.{SeatView}
use Rattle.roam_counters.specs.declared.datagrams.DatagramCounts.{DatagramCounts}
use Rattle.roam_counters.specs.Datagrams.{handled}
use Rattle.roam_counters.specs.declared.datagrams.Datagrams.{Datagrams}
use Rattle.roam_counters.specs.declared.datagrams.Handling.{Handling}
use Rattle.roam_outgoing.specs.declared.counting.Counting.{Counting}
use Rattle.roam_workers.specs.Jobs.{IsAdmitted, IsPutLast, jobs_of}
use Rattle.roam_admission.specs.declared.job.Job.{Job}
use Rattle.roam_outgoing.specs.declared.outgoing.Outgoing.{Outgoing}
use Rattle.roam_workers.specs.Handlings.{Arrives, AtWork, IsJobHandled, at_work}

-- ## A job that is handed on
-- Who takes it gives it to the hub, and counts what becomes of it, as if its datagram had come there: a realm's rules
-- take it, or the call isn't recorded. Who hands it on counts nothing of it but that it came. Those that are taken
-- together are given one after the other, each once, in their order.
-- Those that a queue doesn't take are given to the hub by who had them. How many were handed on, and how many were
-- taken
-- from a queue, is counted.
-- Source: ours
-- Rules out: a job that both count, or nobody; one that is given to the hub twice, or not at all; one that is taken
-- from
-- a queue and forgotten
-- Stands in: `roam_workers` `HandedJobs.antt`: `ArrivesHere`, `IsHandedOn`, `TakesAll`, `HandsOrTakes`, `TakesSome`;
-- `WorkerContext::arrive`, `WorkerContext::take_jobs`, `WorkerContext::hand_to`, `WorkerContext::take_from`
--
-- a job that was handed on is given to the hub, and what becomes of it is counted as that
pub record TakesJob (o : HubOpening) (job : PlainJob) (old new : AtWork) (before after : DatagramCounts)
    : Type 0 where
  pub admitted : IsAdmitted o.config job
  pub lines : ExchangeLines
  pub now : ℕ
  pub handling : Handling
  pub is_handled : IsJobHandled o lines now job old new handling
  pub counted : after ≡ handled before handling

-- one job after the other, each once
abbrev pub TakesAll : HubOpening → List PlainJob → AtWork → AtWork → DatagramCounts → DatagramCounts → Type 0
TakesAll o [] old new before after = (new ≡ old) × (after ≡ before)
TakesAll o (job ∷ rest) old new before after =
    (middle : AtWork) × (counted : DatagramCounts)
    × TakesJob o job old middle before counted × TakesAll o rest middle new counted after

-- these were handed on, all of them, and nothing was done; or none was, and each was taken here
abbrev pub HandsOrTakes :
    {X : Type 0} → HubOpening → List X → (X → Job Global) → ℕ → AtWork → AtWork → DatagramCounts → DatagramCounts
    → Type 0
HandsOrTakes o all job_of count old new before after =
    ((count ≡ length all) × (new ≡ old) × (after ≡ before))
    ⊎ ((count ≡ 0) × TakesAll o (jobs_of all job_of) old new before after)

-- so many were taken
abbrev pub TakesSome : HubOpening → ℕ → AtWork → AtWork → DatagramCounts → DatagramCounts → Type 0
TakesSome o count old new before after =
    (jobs : List PlainJob) × (count ≡ length jobs) × TakesAll o jobs old new before after

-- the job of a datagram is set aside, to be handed on to the worker of its shard
pub record IsHandedOn {Q : Type 0} (o : HubOpening) (d : Arrival) (out out_after : List Q) (jobs : Q → List PlainJob)
    : Type 0 where
  pub job : PlainJob
  pub admitted_is : admission o.config d ≡ admitted job
  pub last : IsPutLast out out_after jobs (job.realm % o.config.shards) job

-- what a worker has that receives: how it stands, what it counted, and what it hands on
pub record Receiving (Q : Type 0) : Type 0 where
  pub work : AtWork
  pub counts : DatagramCounts
  pub outgoing : List Q

abbrev pub receiving : {Q : Type 0} → SeatView → Counting → Outgoing → Datagrams → List Q → Receiving Q
receiving seat counting outgoing datagrams handed = record {
  work = at_work seat counting outgoing;
  counts = datagrams.counts;
  outgoing = handed;
}

-- a datagram arrived at a worker: it takes it; or it hands the job on, and counts nothing
abbrev pub ArrivesHere :
    {Q : Type 0} → HubOpening → ExchangeLines → ℕ → Arrival → Receiving Q → Receiving Q → (Q → List PlainJob) → Type 0
ArrivesHere o lines now d old new jobs =
    (Arrives o lines now d old.work new.work old.counts new.counts × (new.outgoing ≡ old.outgoing))
    ⊎ (IsHandedOn o d old.outgoing new.outgoing jobs × (new.work ≡ old.work) × (new.counts ≡ old.counts))
