use Rattle.roam_pending.proofs.OrderLemmas.{without-absent}
use Rattle.roam_pending.proofs.ChangeLemmas.{find-put, find-put_other, find-without, find-without_other, length-without, length-put}
use Rattle.roam_pending.proofs.laws.changes_by_ticket.Goals as goal

pub returns-clause-put : goal.returns-clause-put
returns-clause-put c = find-put

pub returns-clause-put_others : goal.returns-clause-put_others
returns-clause-put_others c = find-put_other

pub returns-clause-removed : goal.returns-clause-removed
returns-clause-removed c = find-without

pub returns-clause-removed_others : goal.returns-clause-removed_others
returns-clause-removed_others c = find-without_other

pub returns-clause-nothing_removed : goal.returns-clause-nothing_removed
returns-clause-nothing_removed c = without-absent

pub returns-clause-fewer : goal.returns-clause-fewer
returns-clause-fewer c = λ t e es order at. length-without t es e order at

pub returns-clause-more : goal.returns-clause-more
returns-clause-more c = length-put
