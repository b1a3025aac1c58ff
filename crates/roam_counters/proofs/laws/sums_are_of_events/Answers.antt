use Rattle.roam_counters.proofs.SumLemmas.{are-of_events}
use Rattle.roam_counters.proofs.laws.sums_are_of_events.Goals as goal

pub returns : goal.returns
returns c = are-of_events
