use Rattle.roam_workers.specs.Handlings.{at_work}
use Rattle.roam_workers.specs.Work.{HasWorked}
use Rattle.roam_workers.proofs.context.WorkerContext.tick_shard.Given as goal

-- what was done so far
abbrev pub invariant-loop : goal.invariant-loop
invariant-loop g l =
    HasWorked g.N.Opened.opening
    (at_work l.fn.self.seat l.fn.self.counting l.fn.self.outgoing)
    (at_work l.self.seat l.self.counting l.self.outgoing)
