use Rattle.roam_workers.specs.Handlings.{at_work}
use Rattle.roam_workers.specs.Work.{HasWorked}
use Rattle.roam_workers.proofs.timer.tick_on.Given as goal

-- what was done so far
abbrev pub invariant-loop : goal.invariant-loop
invariant-loop g l =
    HasWorked g.N.Opened.opening
    (at_work l.fn.timer.context.seat l.fn.timer.context.counting l.fn.timer.context.outgoing)
    (at_work l.timer.context.seat l.timer.context.counting l.timer.context.outgoing)
