use Rattle.roam_hub.proofs.WaitLemmas.{no_request_waits_longer_from_states, none_waits_longer_from_states, rounds_are_on_time_in_histories}
use Rattle.roam_hub.proofs.bounds.waits_in_histories.Goals as goal

pub returns-clause-entries : goal.returns-clause-entries
returns-clause-entries c = none_waits_longer_from_states

pub returns-clause-requests : goal.returns-clause-requests
returns-clause-requests c = no_request_waits_longer_from_states

pub returns-clause-rounds : goal.returns-clause-rounds
returns-clause-rounds c = rounds_are_on_time_in_histories
