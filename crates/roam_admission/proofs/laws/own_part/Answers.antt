use Rattle.roam_admission.proofs.OwnLemmas.{own_part_decides}
use Rattle.roam_admission.proofs.laws.own_part.Goals as goal

pub returns : goal.returns
returns c = own_part_decides
