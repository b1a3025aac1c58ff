use Rattle.roam_hub.proofs.LifeOverLemmas.{lives_go_along}
use Rattle.roam_hub.proofs.laws.lives_over_changes.Goals as goal

pub returns : goal.returns
returns c = lives_go_along
