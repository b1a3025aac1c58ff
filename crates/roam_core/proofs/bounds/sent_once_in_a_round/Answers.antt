use Rattle.roam_core.proofs.RoundLemmas.{sent_once_in_a_round}
use Rattle.roam_core.proofs.bounds.sent_once_in_a_round.Goals as goal

pub returns : goal.returns
returns c = sent_once_in_a_round
