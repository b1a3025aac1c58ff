use Rattle.roam_streams.proofs.WaitLemmas.{spaced_from_none}
use Rattle.roam_streams.proofs.laws.spacing.Goals as goal

pub returns : goal.returns
returns c = spaced_from_none
