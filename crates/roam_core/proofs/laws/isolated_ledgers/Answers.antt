use Rattle.roam_core.proofs.IsolationLemmas.{each_ledger}
use Rattle.roam_core.proofs.laws.isolated_ledgers.Goals as goal

pub returns : goal.returns
returns c = each_ledger
