use Rattle.roam_sessions.proofs.ItemLemmas.{read_was_written}
use Rattle.roam_sessions.proofs.ledger_laws.read_was_written.Goals as goal

pub returns : goal.returns
returns c = read_was_written
