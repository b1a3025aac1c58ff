-- What the other doesn't take is taken here.
use Rattle.roam_workers.proofs.HandedLemmas.{handed_or_taken}
use Rattle.roam_workers.proofs.context.WorkerContext.hand_to.Goals as goal

pub returns-clause-handed : goal.returns-clause-handed
returns-clause-handed g c =
    handed_or_taken g.N.Opened.opening _ _ (λ x. x.job) _ _ _ _ _ c.hand_on-handed_on.ensures
    c.take_jobs.ensures.takes
