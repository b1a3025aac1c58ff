use Rattle.roam_hub.proofs.HubLemmas.{realms_in_histories}
use Rattle.roam_hub.proofs.laws.realms_in_histories.Goals as goal

pub returns : goal.returns
returns c = realms_in_histories
