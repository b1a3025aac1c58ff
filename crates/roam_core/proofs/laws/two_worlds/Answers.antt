use Rattle.roam_core.proofs.IsolationLemmas.{same_in_two_worlds, same_in_two_worlds_from_start}
use Rattle.roam_core.proofs.laws.two_worlds.Goals as goal

pub returns-clause-from_start : goal.returns-clause-from_start
returns-clause-from_start c = same_in_two_worlds_from_start

pub returns-clause-from_states : goal.returns-clause-from_states
returns-clause-from_states c = same_in_two_worlds
