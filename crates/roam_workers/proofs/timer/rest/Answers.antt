-- Looks at the shards, and a wait.
use Rattle.std.proofs.Common.{ap}
use Rattle.roam_outgoing.specs.Sending.{outbox_in}
use Rattle.roam_workers.proofs.WorkLemmas.{kept_on, worked_looked, worked_none}
use Rattle.roam_workers.proofs.timer.rest.Goals as goal

pub returns-then-is_asked : goal.returns-then-is_asked
returns-then-is_asked g c =
    kept_on g.N.Opened.opening _ _ _ _ _ _ _ (worked_none g.N.Opened.opening _) c.wait.ensures.kept.0
    c.wait.ensures.kept.1 (ap outbox_in c.wait.ensures.kept.2)

pub returns-then-not-can_rest : goal.returns-then-not-can_rest
returns-then-not-can_rest g c =
    let o = g.N.Opened.opening in
    let looked = worked_looked _ _ _ _ (worked_none o _) c.can_rest.ensures.looks in
    kept_on o _ _ _ _ _ _ _ looked c.wait-then-not-can_rest.ensures.kept.0 c.wait-then-not-can_rest.ensures.kept.1
    (ap outbox_in c.wait-then-not-can_rest.ensures.kept.2)

pub returns : goal.returns
returns g c =
    let looked = worked_looked _ _ _ _ (worked_none g.N.Opened.opening _) c.can_rest.ensures.looks in
    let again = worked_looked _ _ _ _ looked c.can_rest-2.ensures.looks in
    kept_on g.N.Opened.opening _ _ _ _ _ _ _ again c.wait-2.ensures.kept.0 c.wait-2.ensures.kept.1
    (ap outbox_in c.wait-2.ensures.kept.2)
