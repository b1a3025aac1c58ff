use Rattle.roam_hub.proofs.ChangeLemmas.{each_goes_alone}
use Rattle.roam_hub.proofs.laws.realms_from_any_states.Goals as goal

pub returns : goal.returns
returns c = each_goes_alone
