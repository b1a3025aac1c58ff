use Rattle.roam_pending.proofs.ClientLemmas.{client-without, without_client-absent, without_client-found}
use Rattle.roam_pending.proofs.laws.one_entry_of_a_key.Goals as goal

pub returns-clause-one : goal.returns-clause-one
returns-clause-one c = λ k e es list at. without_client-found k es e list.in_order list.distinct_keys at

pub returns-clause-none : goal.returns-clause-none
returns-clause-none c = without_client-absent

pub returns-clause-gone : goal.returns-clause-gone
returns-clause-gone c = client-without
