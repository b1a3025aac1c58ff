use Rattle.roam_streams.proofs.RequestLemmas.{none_repeated_from_none}
use Rattle.roam_streams.proofs.laws.repeating.Goals as goal

pub returns : goal.returns
returns c = none_repeated_from_none
