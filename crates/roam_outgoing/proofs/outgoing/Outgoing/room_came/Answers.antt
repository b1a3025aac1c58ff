-- What stands aside is listed again.
use Rattle.roam_outgoing.proofs.SendingLemmas.{tried_again}
use Rattle.roam_outgoing.proofs.outgoing.Outgoing.room_came.Goals as goal

pub returns : goal.returns
returns c = tried_again _ _ _ c.try_again.ensures.again
