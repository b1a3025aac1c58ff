use Rattle.roam_workers.specs.Handlings.{at_work}
use Rattle.roam_workers.specs.Ticks.{HasNotTicked}
use Rattle.roam_workers.proofs.context.WorkerContext.can_rest.Given as goal

-- a look counts nothing
abbrev pub invariant-loop-shard : goal.invariant-loop-shard
invariant-loop-shard g l =
    HasNotTicked (at_work l.fn.self.seat l.fn.self.counting l.fn.self.outgoing)
    (at_work l.self.seat l.self.counting l.self.outgoing)
