-- What arrived was taken between two waits.
use Rattle.std.proofs.Common.{ap}
use Rattle.roam_outgoing.specs.Sending.{outbox_in}
use Rattle.roam_workers.proofs.WorkLemmas.{kept_on, sent_on, worked_after, worked_none}
use Rattle.roam_workers.proofs.worker.round.Goals as goal

pub returns-then-is_over : goal.returns-then-is_over
returns-then-is_over g c =
    sent_on g.N.Opened.opening _ _ _ _ _ _ _ (worked_none g.N.Opened.opening _) c.wait.ensures.kept.0
    c.wait.ensures.kept.1 c.wait.ensures.kept.2

pub returns : goal.returns
returns g c =
    let o = g.N.Opened.opening in
    let waited = sent_on o _ _ _ _ _ _ _ (worked_none o _) c.wait.ensures.kept.0 c.wait.ensures.kept.1
    c.wait.ensures.kept.2 in
    let looked = kept_on o _ _ _ _ _ _ _ waited c.look_at_clock.ensures.kept.0 c.look_at_clock.ensures.kept.1
    (ap outbox_in c.look_at_clock.ensures.kept.2) in
    let taken = worked_after _ _ _ _ looked c.take_queued.ensures.worked in
    let heard = worked_after _ _ _ _ taken c.receive_all-ending.ensures in
    let ticked = worked_after _ _ _ _ heard c.tick_own.ensures in
    kept_on o _ _ _ _ _ _ _ ticked c.wake_logger.ensures.kept.0 c.wake_logger.ensures.kept.1
    (ap outbox_in c.wake_logger.ensures.kept.2)
