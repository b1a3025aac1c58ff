use Rattle.roam_ids.proofs.NextIdentifierLemmas.{next_identifier-same}
use Rattle.roam_ids.proofs.laws.same_use_same_next.Goals as goal

pub returns : goal.returns
returns c = next_identifier-same
