use Rattle.roam_core.proofs.LifeTicketLemmas.{one_request_has_ticket_in, ticket_is_given_once_in}
use Rattle.roam_core.proofs.laws.life_tickets.Goals as goal

pub returns-clause-tickets : goal.returns-clause-tickets
returns-clause-tickets c = ticket_is_given_once_in

pub returns-clause-requests : goal.returns-clause-requests
returns-clause-requests c = one_request_has_ticket_in
