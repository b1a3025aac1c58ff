-- All that waited was taken, and sent.
use Rattle.std.proofs.Common.{refl}
use Rattle.roam_workers.proofs.HandedLemmas.{worked_some}
use Rattle.roam_workers.proofs.WorkLemmas.{sent_on}
use Rattle.roam_workers.proofs.context.WorkerContext.take_queued.Goals as goal

pub returns-clause-worked : goal.returns-clause-worked
returns-clause-worked g c =
    let o = g.N.Opened.opening in
    sent_on o _ _ _ _ _ _ _ (worked_some o _ _ _ _ _ c.take_from-taken_over.ensures.takes) refl refl c.send.ensures
