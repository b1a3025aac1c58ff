-- Jobs that are handed on, and taken.
use Rattle.std.proofs.Common.{◌≡◌, ◌≢◌, ◌<◌, ◌+◌, ℕ, List, [], ◌∷◌, length, inl, inr, sym, subst, ap, ◌∙◌}
use Rattle.std.proofs.Common.{Some, arith, ◌%◌}
use Rattle.std.proofs.lemmas.List.{length-map}
use Rattle.std.proofs.Math.ListN.{set}
use Rattle.std.proofs.lemmas.Bool.{cases_eq}
use Rattle.std.specs.Prelude.{slice_get}
use Rattle.std.specs.declared.alloc.Global.{Global}
use Rattle.roam_port.proofs.ListedLemmas.{get-set_other, get-set_same, is_some}
use Rattle.roam_admission.specs.Admission.{Arrival, PlainJob, admission, admitted}
use Rattle.roam_admission.specs.Shown.{shown_job}
use Rattle.roam_admission.specs.declared.job.Job.{Job}
use Rattle.roam_conf.specs.declared.exchange_lines.ExchangeLines.{ExchangeLines}
use Rattle.roam_history.specs.HubOpening.{HubOpening}
use Rattle.roam_counters.specs.Datagrams.{handled}
use Rattle.roam_counters.specs.declared.datagrams.DatagramCounts.{DatagramCounts}
use Rattle.roam_counters.specs.declared.datagrams.Handling.{Handling}
use Rattle.roam_counters.specs.declared.datagrams.Handling.TheVariants as handling
use Rattle.roam_workers.specs.Jobs.{HaveGone, HoldsNone, IsPutLast, jobs_of}
use Rattle.roam_outgoing.proofs.SendingLemmas.{puts_same}
use Rattle.roam_workers.specs.Handlings.{Arrives, AtWork, HasFailed, IsHandled, IsJobHandled, IsTaken}
use Rattle.roam_workers.specs.HandedJobs.{ArrivesHere, Receiving, HandsOrTakes, IsHandedOn, TakesAll, TakesJob, TakesSome}
use Rattle.roam_workers.specs.Work.{DoesOne, HasWorked}
use Rattle.roam_workers.proofs.WorkLemmas.{worked_idle, worked_more, worked_none}
use Rattle.roam_admission.specs.Shown.{WantsMemory}

-- what becomes of the job becomes of the datagram that gave it
pub job_handled :
    (o : HubOpening) (lines : ExchangeLines) (now : ℕ) (d : Arrival) (job : PlainJob) (old new : AtWork)
    (handling : Handling) → admission o.config d ≡ admitted job → IsJobHandled o lines now job old new handling
    → IsHandled o lines now d old new handling
job_handled o lines now d job old new handling.Taken is did =
    let taken : IsTaken o lines now d old new = record { job = job; admitted_is = is; taken = did } in taken
job_handled o lines now d job old new handling.Answered is none = absurd none
job_handled o lines now d job old new handling.Refused is none = absurd none
job_handled o lines now d job old new handling.Failed is did =
    let failed : HasFailed o d old new = record {
      wants = subst WantsMemory (sym is) tt;
      tallies = did.tallies;
      counts = inr (job, did.why, is, did.counts);
      outbox = did.outbox;
    } in
    failed
job_handled o lines now d job old new handling.Dropped is none = absurd none

-- one job more was taken
pub did_job : (o : HubOpening) (job : PlainJob) (old new : AtWork) (before after : DatagramCounts)
    → TakesJob o job old new before after → DoesOne o old new
did_job o job old new before after took =
    inr (inr (inr (job, took.admitted, took.lines, took.now, took.handling, took.is_handled)))

-- and all
worked-all : (o : HubOpening) (jobs : List PlainJob) (start old new : AtWork) (before after : DatagramCounts)
    → HasWorked o start old → TakesAll o jobs old new before after → HasWorked o start new
worked-all o [] start old new before after did took =
    worked_idle o start old new did (ap (λ (a : AtWork). a.seat.tallies) took.0) (ap (λ (a : AtWork). a.counts) took.0)
    (puts_same old.outbox new.outbox (ap (λ (a : AtWork). a.outbox) took.0))
worked-all o (job ∷ rest) start old new before after did took =
    worked-all o rest start took.0 new took.1 after
    (worked_more o start old took.0 did (did_job o job old took.0 before took.1 took.2)) took.3

pub worked_jobs : (o : HubOpening) (jobs : List PlainJob) (old new : AtWork) (before after : DatagramCounts)
    → TakesAll o jobs old new before after → HasWorked o old new
worked_jobs o jobs old new before after took =
    worked-all o jobs old old new before after (worked_none o old) took

-- those that went were handed on, and the others were taken here
pub handed_or_taken :
    {X : Type 0} (o : HubOpening) (all left : List X) (job_of : X → Job Global) (count : ℕ) (old new : AtWork)
    (before after : DatagramCounts) → HaveGone all left count
    → TakesAll o (jobs_of left job_of) old new before after → HandsOrTakes o all job_of count old new before after
handed_or_taken o all left job_of count old new before after (inl went) took =
    let none : TakesAll o [] old new before after =
    subst (λ xs. TakesAll o (jobs_of xs job_of) old new before after) went.0 took in
    inl (went.1, none.0, none.1)
handed_or_taken o all left job_of count old new before after (inr stayed) took =
    inr (stayed.1, subst (λ xs. TakesAll o (jobs_of xs job_of) old new before after) stayed.0 took)

-- either is work of the thread
pub worked_handed :
    {X : Type 0} (o : HubOpening) (all : List X) (job_of : X → Job Global) (count : ℕ) (start old new : AtWork)
    (before after : DatagramCounts) → HasWorked o start old
    → HandsOrTakes o all job_of count old new before after → HasWorked o start new
worked_handed o all job_of count start old new before after did (inl handed) =
    worked_idle o start old new did (ap (λ (a : AtWork). a.seat.tallies) handed.1)
    (ap (λ (a : AtWork). a.counts) handed.1) (puts_same old.outbox new.outbox (ap (λ (a : AtWork). a.outbox) handed.1))
worked_handed o all job_of count start old new before after did (inr took) =
    worked-all o (jobs_of all job_of) start old new before after did took.1

-- those that were taken from a queue are so many
pub took_some :
    {X : Type 0} (o : HubOpening) (all : List X) (job_of : X → Job Global) (count : ℕ) (old new : AtWork)
    (before after : DatagramCounts) → count ≡ length all
    → TakesAll o (jobs_of all job_of) old new before after → TakesSome o count old new before after
took_some o all job_of count old new before after size took =
    (jobs_of all job_of, size ∙ sym (length-map all (λ x. shown_job (job_of x))), took)

-- which is work of the thread
pub worked_some : (o : HubOpening) (count : ℕ) (old new : AtWork) (before after : DatagramCounts)
    → TakesSome o count old new before after → HasWorked o old new
worked_some o count old new before after took = worked_jobs o took.0 old new before after took.2

-- the first of some, and then the others
pub took_first :
    {X : Type 0} (o : HubOpening) (all rest : List X) (job_of : X → Job Global) (x : X) (old middle new : AtWork)
    (before counted after : DatagramCounts) → all ≡ x ∷ rest
    → TakesJob o (shown_job (job_of x)) old middle before counted
    → TakesAll o (jobs_of rest job_of) middle new counted after → TakesAll o (jobs_of all job_of) old new before after
took_first o all rest job_of x old middle new before counted after same one others =
    subst (λ xs. TakesAll o (jobs_of xs job_of) old new before after) (sym same) (middle, counted, one, others)

-- a datagram arrived, and was taken
pub arrived_here :
    {Q : Type 0} (o : HubOpening) (lines : ExchangeLines) (now : ℕ) (d : Arrival) (old new : Receiving Q)
    (jobs : Q → List PlainJob) (handling : Handling) → IsHandled o lines now d old.work new.work handling
    → new.counts ≡ handled old.counts handling → new.outgoing ≡ old.outgoing
    → ArrivesHere o lines now d old new jobs
arrived_here o lines now d old new jobs handling is counted same =
    let arrives : Arrives o lines now d old.work new.work old.counts new.counts =
    record { handling = handling; is_handled = is; counted = counted } in
    inl (arrives, same)

-- so the worker did one thing more, or none
pub worked_here :
    {Q : Type 0} (o : HubOpening) (lines : ExchangeLines) (now : ℕ) (d : Arrival) (start : AtWork)
    (old new : Receiving Q)
    (jobs : Q → List PlainJob) → HasWorked o start old.work → ArrivesHere o lines now d old new jobs
    → HasWorked o start new.work
worked_here o lines now d start old new jobs did (inl took) =
    worked_more o start old.work new.work did (inl (lines, now, d, took.0.handling, took.0.is_handled))
worked_here o lines now d start old new jobs did (inr handed) =
    worked_idle o start old.work new.work did (ap (λ (a : AtWork). a.seat.tallies) handed.1)
    (ap (λ (a : AtWork). a.counts) handed.1)
    (puts_same old.work.outbox new.work.outbox (ap (λ (a : AtWork). a.outbox) handed.1))

-- or its job was handed on
pub handed_on : {Q : Type 0} (o : HubOpening) (d : Arrival) (out after : List Q) (jobs : Q → List PlainJob)
    (job : PlainJob) (worker : ℕ) → admission o.config d ≡ admitted job → worker ≡ job.realm % o.config.shards
    → IsPutLast out after jobs worker job → IsHandedOn o d out after jobs
handed_on o d out after jobs job worker is same put = record {
  job = job;
  admitted_is = is;
  last = subst (λ w. IsPutLast out after jobs w job) same put;
}

-- ## What is handed next

-- to the first so many nothing is to be handed
abbrev pub HoldsNoneBelow : {Q X : Type 0} → ℕ → List Q → (Q → List X) → Type 0
HoldsNoneBelow {Q} n lists items = (k : ℕ) (q : Q) → k < n → slice_get lists k ≡ Some q → items q ≡ []

before-next : (k n : ℕ) → k < n + 1 → k ≢ n → k < n
before-next k n less other = omega (arith, less, other)

-- nor to the next
pub none_more : {Q X : Type 0} (n : ℕ) (lists : List Q) (items : Q → List X) (q : Q) → n < length lists
    → items q ≡ [] → HoldsNoneBelow n lists items → HoldsNoneBelow (n + 1) (set lists n q) items
none_more n lists items q within none below k p less at = elim (cases_eq k n) as (λ _. items p ≡ []) [
  | inl same ↦
      let is : q ≡ p =
      is_some q p (sym (get-set_same lists n q within) ∙ ap (slice_get (set lists n q)) (sym same) ∙ at) in
      ap items (sym is) ∙ none
  | inr other ↦ below k p (before-next k n less other) (sym (get-set_other lists n k q other) ∙ at)
]

-- and so it stays
pub holds_still : {V Q X : Type 0} (v w : V) (lists : V → List Q) (items : Q → List X) → w ≡ v
    → HoldsNone (lists v) items → HoldsNone (lists w) items
holds_still v w lists items same none = subst (λ u. HoldsNone (lists u) items) (sym same) none
