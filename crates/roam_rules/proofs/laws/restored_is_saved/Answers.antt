use Rattle.roam_realm.proofs.SavingLemmas.{restored_is_saved}
use Rattle.roam_rules.proofs.laws.restored_is_saved.Goals as goal

pub returns : goal.returns
returns c = restored_is_saved
