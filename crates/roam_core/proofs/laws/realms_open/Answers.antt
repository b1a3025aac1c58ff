use Rattle.roam_core.proofs.IsolationLemmas.{each_opens}
use Rattle.roam_core.proofs.laws.realms_open.Goals as goal

pub returns : goal.returns
returns c = each_opens
