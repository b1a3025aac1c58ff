-- One socket after the other.
use Rattle.std.proofs.Common.{[]}
use Rattle.roam_outgoing.proofs.SendingLemmas.{puts_none, puts_on}
use Rattle.roam_outgoing.proofs.outgoing.Outgoing.rooms_came.Goals as goal

pub loop-number-init : goal.loop-number-init
loop-number-init c = puts_none _

pub loop-number-preserved : goal.loop-number-preserved
loop-number-preserved c = puts_on [] _ _ _ c.loop-number.invariant c.room_came.ensures
