-- What is handed on, and what was handed here.
use Rattle.roam_workers.proofs.HandedLemmas.{holds_still}
use Rattle.roam_workers.proofs.WorkLemmas.{worked_after}
use Rattle.roam_workers.proofs.context.WorkerContext.end_jobs.Goals as goal

pub returns-clause-worked : goal.returns-clause-worked
returns-clause-worked g c =
    worked_after _ _ _ _ c.hand_all.ensures.worked c.take_queued.ensures.worked

pub returns-clause-none_left : goal.returns-clause-none_left
returns-clause-none_left g c =
    holds_still c.hand_all.new.jobs.for_others c.take_queued.new.jobs.for_others (λ v. v.items) (λ q. q.items)
    c.take_queued.ensures.for_others c.hand_all.ensures.none_left
