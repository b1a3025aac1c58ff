use Rattle.std.proofs.Common.{length}
use Rattle.roam_counters.specs.declared.datagrams.DatagramCounts.{DatagramCounts}
use Rattle.roam_workers.specs.Jobs.{jobs_of}
use Rattle.roam_workers.specs.Handlings.{AtWork, at_work}
use Rattle.roam_workers.specs.HandedJobs.{TakesAll}
use Rattle.roam_workers.proofs.context.WorkerContext.take_jobs.Given as goal

-- who takes the others from here has taken all
abbrev pub invariant-loop-queued : goal.invariant-loop-queued
invariant-loop-queued g l =
    (new : AtWork) (after : DatagramCounts)
    → TakesAll g.N.Opened.opening (jobs_of l.jobs.items (λ x. x.job))
    (at_work l.self.seat l.self.counting l.self.outgoing) new
    l.self.datagrams.counts after
    → TakesAll g.N.Opened.opening (jobs_of l.fn.jobs.items (λ x. x.job))
    (at_work l.fn.self.seat l.fn.self.counting l.fn.self.outgoing) new l.fn.self.datagrams.counts after

-- each turn takes one
abbrev pub decreases-loop-queued : goal.decreases-loop-queued
decreases-loop-queued g l = length l.jobs.items
