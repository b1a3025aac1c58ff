use Rattle.roam_workers.proofs.WorkLemmas.{work-counted}
use Rattle.roam_workers.proofs.laws.work_is_counted.Goals as goal

pub returns : goal.returns
returns c = work-counted
