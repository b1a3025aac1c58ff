-- It is put, and what was sent before is settled.
use Rattle.roam_outgoing.proofs.SendingLemmas.{puts_on, puts_one}
use Rattle.roam_outgoing.proofs.outgoing.Outgoing.put.Goals as goal

pub returns : goal.returns
returns c =
    puts_on _ _ _ _ (puts_one _ _ _ _ _ _ c.put_sending-sent.ensures.puts) c.settle_any.ensures
