use Rattle.roam_reply.proofs.CheckLemmas.{taken_has_no_fault}
use Rattle.roam_reply.proofs.laws.taken_replies.Goals as goal

pub returns : goal.returns
returns c = taken_has_no_fault
