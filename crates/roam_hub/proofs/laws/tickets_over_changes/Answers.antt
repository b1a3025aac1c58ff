use Rattle.roam_hub.proofs.TicketOverLemmas.{ticket_given_once_over_changes}
use Rattle.roam_hub.proofs.laws.tickets_over_changes.Goals as goal

pub returns : goal.returns
returns c = ticket_given_once_over_changes
