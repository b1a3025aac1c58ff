use Rattle.roam_log.proofs.QuotedLemmas.{reads_back}
use Rattle.roam_log.proofs.laws.values_read_back.Goals as goal

pub returns : goal.returns
returns c = reads_back
