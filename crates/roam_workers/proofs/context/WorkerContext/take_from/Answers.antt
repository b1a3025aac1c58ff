-- All that waited was taken.
use Rattle.std.proofs.Common.{◌∙◌}
use Rattle.roam_workers.proofs.HandedLemmas.{took_some}
use Rattle.roam_workers.proofs.context.WorkerContext.take_from.Goals as goal

pub returns-clause-takes : goal.returns-clause-takes
returns-clause-takes g c =
    let room = c.take_over.new.room in
    took_some g.N.Opened.opening room.items (λ x. x.job) _ _ _ _ _ (c.len-taken_over.ensures ∙ room.ok.0)
    c.take_jobs.ensures.takes
