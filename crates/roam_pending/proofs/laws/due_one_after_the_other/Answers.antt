use Rattle.roam_pending.proofs.DueListLemmas.{due-next}
use Rattle.roam_pending.proofs.laws.due_one_after_the_other.Goals as goal

pub returns : goal.returns
returns c = due-next
