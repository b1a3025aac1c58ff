-- What was taken and handed on, what was sent, and a look at the clock.
use Rattle.std.proofs.Common.{ap, refl}
use Rattle.roam_outgoing.specs.Sending.{outbox_in}
use Rattle.roam_workers.proofs.WorkLemmas.{kept_on, sent_on, worked_after}
use Rattle.roam_workers.proofs.worker.receive_portion.Goals as goal

pub returns : goal.returns
returns g c =
    let o = g.N.Opened.opening in
    let handed = worked_after _ _ _ _ c.take_portion-ending.ensures.worked c.hand_all.ensures.worked in
    let sent = sent_on o _ _ _ _ _ _ _ handed refl refl c.send.ensures in
    kept_on o _ _ _ _ _ _ _ sent c.look_after_faults.ensures.kept.0 c.look_after_faults.ensures.kept.1
    (ap outbox_in c.look_after_faults.ensures.kept.2)
