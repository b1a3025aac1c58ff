use Rattle.roam_core.proofs.AloneLemmas.{one_realm_is_alone}
use Rattle.roam_core.proofs.laws.one_realm.Goals as goal

pub returns : goal.returns
returns c = one_realm_is_alone
