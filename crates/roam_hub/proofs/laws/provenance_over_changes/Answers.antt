use Rattle.roam_hub.proofs.LifeOverLemmas.{provenance_over_changes}
use Rattle.roam_hub.proofs.laws.provenance_over_changes.Goals as goal

pub returns : goal.returns
returns c = provenance_over_changes
