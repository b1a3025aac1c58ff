use Rattle.roam_core.proofs.BoundLemmas.{no_amplification, no_amplification-from_start, no_more_answers, one_packet_each}
use Rattle.roam_core.proofs.TargetLemmas.{targets_are_few}
use Rattle.roam_core.proofs.bounds.no_amplification.Goals as goal

pub returns-clause-from_start : goal.returns-clause-from_start
returns-clause-from_start c = no_amplification-from_start

pub returns-clause-from_states : goal.returns-clause-from_states
returns-clause-from_states c = no_amplification

pub returns-clause-back : goal.returns-clause-back
returns-clause-back c = no_more_answers

pub returns-clause-each : goal.returns-clause-each
returns-clause-each c = one_packet_each

pub returns-clause-targets : goal.returns-clause-targets
returns-clause-targets c = targets_are_few
