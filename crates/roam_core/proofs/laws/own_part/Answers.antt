use Rattle.roam_core.proofs.OwnPartLemmas.{same_own_events, same_packets}
use Rattle.roam_core.proofs.laws.own_part.Goals as goal

pub returns-clause-events : goal.returns-clause-events
returns-clause-events c = same_own_events

pub returns-clause-packets : goal.returns-clause-packets
returns-clause-packets c = same_packets
