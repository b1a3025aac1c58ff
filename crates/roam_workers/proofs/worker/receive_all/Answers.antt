-- One socket after the other.
use Rattle.roam_workers.proofs.WorkLemmas.{worked_after, worked_none}
use Rattle.roam_workers.proofs.worker.receive_all.Goals as goal

pub loop-place-init : goal.loop-place-init
loop-place-init g c =
    worked_none g.N.Opened.opening _

pub loop-place-preserved : goal.loop-place-preserved
loop-place-preserved g c =
    worked_after _ _ _ _ c.loop-place.invariant c.receive_at-ending.ensures

pub returns-then-is_some : goal.returns-then-is_some
returns-then-is_some g c =
    worked_after _ _ _ _ c.loop-place.invariant c.receive_at-ending.ensures
