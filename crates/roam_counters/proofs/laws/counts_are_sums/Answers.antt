use Rattle.roam_counters.proofs.OwnCountLemmas.{are-sums}
use Rattle.roam_counters.proofs.laws.counts_are_sums.Goals as goal

pub returns : goal.returns
returns c = are-sums
