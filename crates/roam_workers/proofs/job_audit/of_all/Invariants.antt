use Rattle.std.proofs.Common.{◌≡◌, take}
use Rattle.roam_workers.specs.JobCounts.{of_threads}
use Rattle.roam_workers.proofs.job_audit.of_all.Given as goal

-- the sum of the threads that were gone through
abbrev pub invariant-loop-counts : goal.invariant-loop-counts
invariant-loop-counts l = l.sum ≡ of_threads (λ v. v.items) l.queue (take l.counts-index l.threads)
