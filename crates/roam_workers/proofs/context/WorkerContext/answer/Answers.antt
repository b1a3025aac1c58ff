-- The call that was recorded is of the job that was handed in.
use Rattle.roam_workers.proofs.HandlingLemmas.{answered_so}
use Rattle.roam_workers.proofs.context.WorkerContext.answer.Goals as goal

pub returns-in-Ok-clause-answered : goal.returns-in-Ok-clause-answered
returns-in-Ok-clause-answered g c =
    let inv = c.loop.invariant in
    answered_so g.N.Opened.opening _ _ _ _ _ _ _ _ _ inv.now inv.same inv.tallies c.in-Ok.ensures.call
    c.in-Ok.ensures.happened c.in-Ok.ensures.shard_is
