-- What waited is sent, or waits.
use Rattle.std.proofs.Common.{[], arith}
use Rattle.roam_outgoing.proofs.SendingLemmas.{puts_on}
use Rattle.roam_outgoing.proofs.outgoing.Outgoing.new.Goals as goal

pub returns : goal.returns
returns c = λ within.
    puts_on [] _ _ _ (c.in_ok-outbox.ensures.waits (omega (arith, within, c.len.ensures))) c.send.ensures
