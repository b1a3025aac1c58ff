-- One after the other.
use Rattle.roam_workers.proofs.HandedLemmas.{took_first}
use Rattle.roam_workers.proofs.context.WorkerContext.take_jobs.Goals as goal

pub loop-queued-init : goal.loop-queued-init
loop-queued-init g c = λ new after took. took

pub loop-queued-preserved : goal.loop-queued-preserved
loop-queued-preserved g c = λ new after took.
    c.loop-queued.invariant new after
    (took_first g.N.Opened.opening _ _ (λ x. x.job) c.in-Some.queued _ _ new _ _ after c.in-Some.ensures.items
    c.take_job.ensures took)
