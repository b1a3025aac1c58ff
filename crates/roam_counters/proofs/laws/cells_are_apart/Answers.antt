use Rattle.roam_counters.proofs.ApartLemmas.{are-apart}
use Rattle.roam_counters.proofs.laws.cells_are_apart.Goals as goal

pub returns : goal.returns
returns c = are-apart
