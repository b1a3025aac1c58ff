-- What was counted is told.
use Rattle.std.proofs.Common.{[]}
use Rattle.roam_outgoing.proofs.SendingLemmas.{counted, puts_from}
use Rattle.roam_outgoing.proofs.outgoing.Outgoing.settle.Goals as goal

pub returns-clause-puts : goal.returns-clause-puts
returns-clause-puts c =
    rw c.note_unreachable.ensures
    (puts_from [] _ _ _ c.watch.ensures
    (counted _ _ c.take_account-account.ensures.waiting c.take_account-account.ensures.account))
