use Rattle.roam_hub.proofs.HubLemmas.{provenance_in_histories}
use Rattle.roam_hub.proofs.laws.provenance_in_histories.Goals as goal

pub returns : goal.returns
returns c = provenance_in_histories
