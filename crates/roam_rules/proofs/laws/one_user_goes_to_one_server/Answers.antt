use Rattle.roam_rules.proofs.BalanceLemmas.{first_taken, one_list}
use Rattle.roam_rules.proofs.laws.one_user_goes_to_one_server.Goals as goal

pub returns-clause-list : goal.returns-clause-list
returns-clause-list c = one_list

pub returns-clause-first : goal.returns-clause-first
returns-clause-first c = first_taken
