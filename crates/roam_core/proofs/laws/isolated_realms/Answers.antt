use Rattle.roam_core.proofs.IsolationLemmas.{isolated, isolated_from_start, stands_alone}
use Rattle.roam_core.proofs.laws.isolated_realms.Goals as goal

pub returns-clause-from_start : goal.returns-clause-from_start
returns-clause-from_start c = isolated_from_start

pub returns-clause-packets : goal.returns-clause-packets
returns-clause-packets c = isolated

pub returns-clause-states : goal.returns-clause-states
returns-clause-states c = stands_alone
