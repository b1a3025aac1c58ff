-- One round after the other.
use Rattle.std.proofs.Common.{refl}
use Rattle.roam_workers.proofs.WorkLemmas.{sent_on, worked_after, worked_none}
use Rattle.roam_workers.proofs.worker.receive_on.Goals as goal

pub loop-init : goal.loop-init
loop-init g c =
    worked_none g.N.Opened.opening _

pub loop-preserved : goal.loop-preserved
loop-preserved g c =
    worked_after _ _ _ _ c.loop.invariant c.round.ensures

pub returns-in-Some-round : goal.returns-in-Some-round
returns-in-Some-round g c =
    let o = g.N.Opened.opening in
    let did = worked_after _ _ _ _ c.loop.invariant c.round.ensures in
    let ended = worked_after _ _ _ _ did c.end_jobs.ensures.worked in
    (_, sent_on o _ _ _ _ _ _ _ ended c.leave.ensures.seat refl c.leave.ensures.sends)
