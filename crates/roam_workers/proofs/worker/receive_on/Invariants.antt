use Rattle.roam_workers.specs.Handlings.{at_work}
use Rattle.roam_workers.specs.Work.{HasWorked}
use Rattle.roam_workers.proofs.worker.receive_on.Given as goal

-- what was done so far
abbrev pub invariant-loop : goal.invariant-loop
invariant-loop g l =
    HasWorked g.N.Opened.opening
    (at_work l.fn.worker.context.seat l.fn.worker.context.counting l.fn.worker.context.outgoing)
    (at_work l.worker.context.seat l.worker.context.counting l.worker.context.outgoing)
