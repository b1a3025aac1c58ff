use Rattle.roam_hub.proofs.ChangeLemmas.{carried_over_changes, others_begin_anew, untouched_over_changes}
use Rattle.roam_hub.proofs.laws.realms_over_changes.Goals as goal

pub returns-clause-carried : goal.returns-clause-carried
returns-clause-carried c = carried_over_changes

pub returns-clause-untouched : goal.returns-clause-untouched
returns-clause-untouched c = untouched_over_changes

pub returns-clause-others : goal.returns-clause-others
returns-clause-others c = others_begin_anew
