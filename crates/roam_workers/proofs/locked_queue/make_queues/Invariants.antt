use Rattle.std.proofs.Common.{◌≡◌}
use Rattle.std.specs.Vec.{vec_len}
use Rattle.roam_workers.proofs.locked_queue.make_queues.Given as goal

-- one for each worker so far
abbrev pub invariant-loop : goal.invariant-loop
invariant-loop g l = vec_len l.queues ≡ l.counter
