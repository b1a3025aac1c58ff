use Rattle.roam_sessions.proofs.ItemLemmas.{cut_is_refused}
use Rattle.roam_sessions.proofs.ledger_laws.cut_is_refused.Goals as goal

pub returns : goal.returns
returns c = cut_is_refused
