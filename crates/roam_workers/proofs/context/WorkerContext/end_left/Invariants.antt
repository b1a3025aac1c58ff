-- What is told of conversations changes nothing that is counted.
use Rattle.std.proofs.Common.{◌≡◌}
use Rattle.roam_outgoing.specs.Counting.{counts_in}
use Rattle.roam_workers.proofs.context.WorkerContext.end_left.Given as goal

abbrev pub invariant-loop-conversation : goal.invariant-loop-conversation
invariant-loop-conversation g l =
    (l.self.seat ≡ l.fn.self.seat) × (l.self.datagrams ≡ l.fn.self.datagrams) × (l.self.now ≡ l.fn.self.now)
    × (counts_in l.self.counting ≡ counts_in l.fn.self.counting) × (l.self.outgoing ≡ l.fn.self.outgoing)
