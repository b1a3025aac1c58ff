use Rattle.roam_metrics.proofs.LabelLemmas.{reads_back}
use Rattle.roam_metrics.proofs.laws.label_values_read_back.Goals as goal

pub returns : goal.returns
returns c = reads_back
