use Rattle.roam_hub.proofs.BoundLemmas.{none_waits_longer_in_histories}
use Rattle.roam_hub.proofs.bounds.bounded_waits_in_histories.Goals as goal

pub returns : goal.returns
returns c = none_waits_longer_in_histories
