use Rattle.roam_pending.proofs.OrderLemmas.{list-new, list-changed, list-without}
use Rattle.roam_pending.proofs.laws.changes_keep_the_list.Goals as goal

pub returns-clause-new : goal.returns-clause-new
returns-clause-new c = list-new

pub returns-clause-change : goal.returns-clause-change
returns-clause-change c = list-changed

pub returns-clause-removal : goal.returns-clause-removal
returns-clause-removal c = list-without
