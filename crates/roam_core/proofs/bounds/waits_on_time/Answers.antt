use Rattle.roam_core.proofs.OnTimeLemmas.{no_request_waits_longer, none_waits_longer_from, rounds_are_on_time}
use Rattle.roam_core.proofs.bounds.waits_on_time.Goals as goal

pub returns-clause-entries : goal.returns-clause-entries
returns-clause-entries c = none_waits_longer_from

pub returns-clause-requests : goal.returns-clause-requests
returns-clause-requests c = no_request_waits_longer

pub returns-clause-rounds : goal.returns-clause-rounds
returns-clause-rounds c = rounds_are_on_time
