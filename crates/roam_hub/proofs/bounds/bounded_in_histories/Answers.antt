use Rattle.roam_hub.proofs.BoundLemmas.{no_amplification_from_opening, no_amplification_in_histories}
use Rattle.roam_hub.proofs.bounds.bounded_in_histories.Goals as goal

pub returns-clause-from_opening : goal.returns-clause-from_opening
returns-clause-from_opening c = no_amplification_from_opening

pub returns-clause-from_states : goal.returns-clause-from_states
returns-clause-from_states c = no_amplification_in_histories
