-- A look at the clock, and what was taken.
use Rattle.std.proofs.Common.{ap}
use Rattle.roam_outgoing.specs.Sending.{outbox_in}
use Rattle.roam_workers.proofs.WorkLemmas.{kept_on, worked_after, worked_none}
use Rattle.roam_workers.proofs.worker.receive_at.Goals as goal

pub returns : goal.returns
returns g c =
    let o = g.N.Opened.opening in
    worked_after _ _ _ _
    (kept_on o _ _ _ _ _ _ _ (worked_none o _) c.look_at_clock.ensures.kept.0 c.look_at_clock.ensures.kept.1
    (ap outbox_in c.look_at_clock.ensures.kept.2))
    c.receive_portion.ensures
