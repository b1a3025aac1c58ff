use Rattle.roam_pending.proofs.ClientLemmas.{identifier-used}
use Rattle.roam_pending.proofs.laws.used_identifiers.Goals as goal

pub returns : goal.returns
returns c = identifier-used
