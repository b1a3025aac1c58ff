use Rattle.std.proofs.Common.{◌≡◌}
use Rattle.std.specs.Vec.{vec_len}
use Rattle.roam_workers.specs.Handlings.{at_work}
use Rattle.roam_workers.specs.Work.{HasWorked}
use Rattle.roam_workers.proofs.HandedLemmas.{HoldsNoneBelow}
use Rattle.roam_workers.proofs.context.WorkerContext.hand_all.Given as goal

-- what was done so far, and to whom nothing is to be handed any more
abbrev pub invariant-loop-worker : goal.invariant-loop-worker
invariant-loop-worker g l = record {
  worked : HasWorked g.N.Opened.opening (at_work l.fn.self.seat l.fn.self.counting l.fn.self.outgoing)
      (at_work l.self.seat l.self.counting l.self.outgoing);
  size : vec_len l.jobs.for_others ≡ vec_len l.fn.jobs.for_others;
  none : HoldsNoneBelow l.worker l.jobs.for_others.items (λ q. q.items);
}
