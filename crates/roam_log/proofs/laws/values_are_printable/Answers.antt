use Rattle.roam_log.proofs.PrintableLemmas.{are_printable}
use Rattle.roam_log.proofs.laws.values_are_printable.Goals as goal

pub returns : goal.returns
returns c = are_printable
