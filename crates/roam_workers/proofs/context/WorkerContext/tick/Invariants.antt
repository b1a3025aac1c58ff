use Rattle.std.proofs.Common.{◌≡◌}
use Rattle.roam_outgoing.specs.Counting.{counts_in}
use Rattle.roam_workers.proofs.context.WorkerContext.tick.Given as goal

-- none was counted yet
abbrev pub invariant-loop : goal.invariant-loop
invariant-loop g l = record {
  tallies : l.self.seat.tallies ≡ l.fn.self.seat.tallies;
  now : l.self.now ≡ l.fn.self.now;
  counts : counts_in l.self.counting ≡ counts_in l.fn.self.counting;
  outgoing : l.self.outgoing ≡ l.fn.self.outgoing;
}
