-- One shard after the other.
use Rattle.roam_workers.proofs.WorkLemmas.{worked_after, worked_none}
use Rattle.roam_workers.proofs.timer.tick_all.Goals as goal

pub loop-shard-init : goal.loop-shard-init
loop-shard-init g c =
    worked_none g.N.Opened.opening _

pub loop-shard-preserved : goal.loop-shard-preserved
loop-shard-preserved g c =
    worked_after _ _ _ _ c.loop-shard.invariant c.tick_unless_left.ensures
