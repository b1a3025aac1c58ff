-- What has room again is tried, and sent.
use Rattle.std.proofs.Common.{[]}
use Rattle.roam_outgoing.proofs.SendingLemmas.{puts_on}
use Rattle.roam_outgoing.proofs.outgoing.Outgoing.send_again.Goals as goal

pub returns : goal.returns
returns c =
    puts_on [] _ _ _ (puts_on [] _ _ _ c.ask_all.ensures c.try_unwatched.ensures) c.send.ensures
