use Rattle.roam_sessions.proofs.ItemLemmas.{written_is_read}
use Rattle.roam_sessions.proofs.ledger_laws.written_is_read.Goals as goal

pub returns : goal.returns
returns c = written_is_read
