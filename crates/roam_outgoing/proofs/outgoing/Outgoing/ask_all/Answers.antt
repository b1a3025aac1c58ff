-- One look after the other.
use Rattle.std.proofs.Common.{[]}
use Rattle.roam_outgoing.proofs.SendingLemmas.{puts_none, puts_on}
use Rattle.roam_outgoing.proofs.outgoing.Outgoing.ask_all.Goals as goal

pub loop-init : goal.loop-init
loop-init c = puts_none _

pub loop-preserved : goal.loop-preserved
loop-preserved c = puts_on [] _ _ _ c.loop.invariant c.ask_for_room.ensures

pub returns-then-not-ask_for_room : goal.returns-then-not-ask_for_room
returns-then-not-ask_for_room c = puts_on [] _ _ _ c.loop.invariant c.ask_for_room.ensures

pub returns-else-not-ask_for_room : goal.returns-else-not-ask_for_room
returns-else-not-ask_for_room c = puts_on [] _ _ _ c.loop.invariant c.ask_for_room.ensures
