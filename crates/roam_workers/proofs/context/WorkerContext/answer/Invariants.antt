use Rattle.std.proofs.Common.{◌≡◌}
use Rattle.roam_admission.specs.Events.{IsEvent}
use Rattle.roam_admission.specs.Shown.{shown_job}
use Rattle.roam_outgoing.specs.Counting.{counts_in}
use Rattle.roam_workers.proofs.context.WorkerContext.answer.Given as goal

-- the job is the one that was handed in, which the hub takes, and none was counted yet
abbrev pub invariant-loop : goal.invariant-loop
invariant-loop g l = record {
  event : IsEvent g.N.Opened.opening.config (shown_job l.job);
  same : shown_job l.job ≡ shown_job l.fn.job;
  tallies : l.self.seat.tallies ≡ l.fn.self.seat.tallies;
  datagrams : l.self.datagrams ≡ l.fn.self.datagrams;
  now : l.self.now ≡ l.fn.self.now;
  counts : counts_in l.self.counting ≡ counts_in l.fn.self.counting;
  outgoing : l.self.outgoing ≡ l.fn.self.outgoing;
}
