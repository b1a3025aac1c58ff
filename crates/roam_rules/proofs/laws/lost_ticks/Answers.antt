use Rattle.roam_rules.proofs.LostTickLemmas.{nothing-is_lost, only-done_go}
use Rattle.roam_rules.proofs.laws.lost_ticks.Goals as goal

pub returns-clause-nothing : goal.returns-clause-nothing
returns-clause-nothing c = nothing-is_lost

pub returns-clause-only_done : goal.returns-clause-only_done
returns-clause-only_done c = only-done_go
