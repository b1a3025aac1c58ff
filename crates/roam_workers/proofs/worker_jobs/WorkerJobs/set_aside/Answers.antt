-- The job stands last.
use Rattle.std.proofs.Common.{◌<◌, arith, length, refl}
use Rattle.roam_workers.proofs.JobLemmas.{put_last}
use Rattle.roam_workers.proofs.worker_jobs.WorkerJobs.set_aside.Goals as goal

pub returns-then-len-capacity-clause-aside : goal.returns-then-len-capacity-clause-aside
returns-then-len-capacity-clause-aside g c =
    let lists = c.args.self.now.for_others in
    let there = c.in-Some.ensures.variant.0 refl in
    let size = lists.ok.0 in
    let within : c.args.worker < length lists.items = omega arith in
    put_last lists.items (λ q. q.items) (λ j. j.job) c.args.worker c.in-Some.jobs.now c.push_back_reserved.new.self _
    within c.in-Some.ensures.value c.push_back_reserved.ensures.items
