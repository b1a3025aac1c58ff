-- One tick after the other.
use Rattle.roam_workers.proofs.WorkLemmas.{worked_after, worked_none}
use Rattle.roam_workers.proofs.context.WorkerContext.tick_shard.Goals as goal

pub loop-init : goal.loop-init
loop-init g c =
    worked_none g.N.Opened.opening _

pub loop-preserved : goal.loop-preserved
loop-preserved g c =
    worked_after _ _ _ _ c.loop.invariant c.tick_once.ensures

pub returns-then-not-tick_once : goal.returns-then-not-tick_once
returns-then-not-tick_once g c =
    worked_after _ _ _ _ c.loop.invariant c.tick_once.ensures
