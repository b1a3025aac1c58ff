use Rattle.roam_workers.proofs.WorkLemmas.{work-sent}
use Rattle.roam_workers.proofs.laws.work_is_sent.Goals as goal

pub returns : goal.returns
returns c = work-sent
