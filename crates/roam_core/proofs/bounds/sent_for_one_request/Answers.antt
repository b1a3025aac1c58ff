use Rattle.roam_core.proofs.SentForLemmas.{at_most_tries_to_each}
use Rattle.roam_core.proofs.bounds.sent_for_one_request.Goals as goal

pub returns : goal.returns
returns c = at_most_tries_to_each
