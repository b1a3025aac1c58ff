-- One thread after the other.
use Rattle.std.proofs.Common.{arith}
use Rattle.roam_workers.proofs.AuditLemmas.{one-more}
use Rattle.roam_workers.proofs.job_audit.of_all.Goals as goal

pub loop-counts-preserved : goal.loop-counts-preserved
loop-counts-preserved c =
    let more = one-more (λ v. v.items) c.args.queue c.args.threads.now c.loop-counts.counts-index
    c.counts-item.result (omega arith) in
    cc
