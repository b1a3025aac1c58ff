use Rattle.roam_hub.proofs.LifeOverLemmas.{draws_apart_over_changes}
use Rattle.roam_hub.proofs.laws.draws_apart_over_changes.Goals as goal

pub returns : goal.returns
returns c = draws_apart_over_changes
