-- What stands aside is listed again.
use Rattle.roam_outgoing.proofs.SendingLemmas.{tried_again}
use Rattle.roam_outgoing.proofs.outgoing.Outgoing.try_one_unwatched.Goals as goal

pub returns-then-is_some_and : goal.returns-then-is_some_and
returns-then-is_some_and c = tried_again _ _ _ c.try_again.ensures.again
