-- All shards were ticked, and what is to be told was told.
use Rattle.std.proofs.Common.{ap, refl}
use Rattle.roam_outgoing.specs.Sending.{outbox_in}
use Rattle.roam_workers.proofs.WorkLemmas.{kept_on, sent_on, worked_after, worked_none}
use Rattle.roam_workers.proofs.timer.round.Goals as goal

pub returns-then-is_over : goal.returns-then-is_over
returns-then-is_over g c =
    worked_none g.N.Opened.opening _

pub returns-then-is_time_over : goal.returns-then-is_time_over
returns-then-is_time_over g c =
    let o = g.N.Opened.opening in
    let looked = kept_on o _ _ _ _ _ _ _ (worked_none o _) c.look_at_clock.ensures.kept.0
    c.look_at_clock.ensures.kept.1 (ap outbox_in c.look_at_clock.ensures.kept.2) in
    kept_on o _ _ _ _ _ _ _ looked c.tell_stop.ensures.kept.0 c.tell_stop.ensures.kept.1
    (ap outbox_in c.tell_stop.ensures.kept.2)

pub returns-then-is_over-2 : goal.returns-then-is_over-2
returns-then-is_over-2 g c =
    let o = g.N.Opened.opening in
    let looked = kept_on o _ _ _ _ _ _ _ (worked_none o _) c.look_at_clock.ensures.kept.0
    c.look_at_clock.ensures.kept.1 (ap outbox_in c.look_at_clock.ensures.kept.2) in
    let stopped = kept_on o _ _ _ _ _ _ _ looked c.tell_stop.ensures.kept.0 c.tell_stop.ensures.kept.1
    (ap outbox_in c.tell_stop.ensures.kept.2) in
    let handed = sent_on o _ _ _ _ _ _ _ stopped refl refl c.send_again.ensures in
    worked_after _ _ _ _ handed c.tick_all.ensures

pub returns-then-has_done_all : goal.returns-then-has_done_all
returns-then-has_done_all g c =
    let o = g.N.Opened.opening in
    let looked = kept_on o _ _ _ _ _ _ _ (worked_none o _) c.look_at_clock.ensures.kept.0
    c.look_at_clock.ensures.kept.1 (ap outbox_in c.look_at_clock.ensures.kept.2) in
    let stopped = kept_on o _ _ _ _ _ _ _ looked c.tell_stop.ensures.kept.0 c.tell_stop.ensures.kept.1
    (ap outbox_in c.tell_stop.ensures.kept.2) in
    let handed = sent_on o _ _ _ _ _ _ _ stopped refl refl c.send_again.ensures in
    let ticked = worked_after _ _ _ _ handed c.tick_all.ensures in
    let told = kept_on o _ _ _ _ _ _ _ ticked c.tell_all.ensures.kept.0 c.tell_all.ensures.kept.1
    (ap outbox_in c.tell_all.ensures.kept.2) in
    kept_on o _ _ _ _ _ _ _ told c.has_done_all.ensures.kept.0 c.has_done_all.ensures.kept.1
    (ap outbox_in c.has_done_all.ensures.kept.2)

pub returns : goal.returns
returns g c =
    let o = g.N.Opened.opening in
    let looked = kept_on o _ _ _ _ _ _ _ (worked_none o _) c.look_at_clock.ensures.kept.0
    c.look_at_clock.ensures.kept.1 (ap outbox_in c.look_at_clock.ensures.kept.2) in
    let stopped = kept_on o _ _ _ _ _ _ _ looked c.tell_stop.ensures.kept.0 c.tell_stop.ensures.kept.1
    (ap outbox_in c.tell_stop.ensures.kept.2) in
    let handed = sent_on o _ _ _ _ _ _ _ stopped refl refl c.send_again.ensures in
    let ticked = worked_after _ _ _ _ handed c.tick_all.ensures in
    let told = kept_on o _ _ _ _ _ _ _ ticked c.tell_all.ensures.kept.0 c.tell_all.ensures.kept.1
    (ap outbox_in c.tell_all.ensures.kept.2) in
    kept_on o _ _ _ _ _ _ _ told c.has_done_all.ensures.kept.0 c.has_done_all.ensures.kept.1
    (ap outbox_in c.has_done_all.ensures.kept.2)
