use Rattle.roam_core.proofs.OwnLossLemmas.{misses-own, next-makes_good}
use Rattle.roam_core.proofs.laws.own_losses.Goals as goal

pub returns-clause-own : goal.returns-clause-own
returns-clause-own c = misses-own

pub returns-clause-made_good : goal.returns-clause-made_good
returns-clause-made_good c = next-makes_good
