use Rattle.roam_outgoing.proofs.SendingLemmas.{goes-or-waits}
use Rattle.roam_outgoing.proofs.laws.given_goes_or_waits.Goals as goal

pub returns : goal.returns
returns c = goes-or-waits
