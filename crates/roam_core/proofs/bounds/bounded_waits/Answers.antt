use Rattle.roam_core.proofs.InTimeLemmas.{none_waits_longer}
use Rattle.roam_core.proofs.bounds.bounded_waits.Goals as goal

pub returns : goal.returns
returns c = none_waits_longer
