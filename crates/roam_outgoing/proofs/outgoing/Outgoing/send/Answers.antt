-- What waits is handed over, and settled.
use Rattle.std.proofs.Common.{[]}
use Rattle.roam_outgoing.proofs.SendingLemmas.{hands_over, puts_on}
use Rattle.roam_outgoing.proofs.outgoing.Outgoing.send.Goals as goal

pub returns : goal.returns
returns c =
    puts_on [] _ _ _ (hands_over _ _ _ _ _ c.send_all-sent.ensures.sends) c.settle.ensures.puts
