use Rattle.roam_core.proofs.DrawLemmas.{draws_are_apart, words_are_drawn_in_order, words_are_drawn_once}
use Rattle.roam_core.proofs.ProvenanceLemmas.{each_entry_has_origin, each_packet_has_origin}
use Rattle.roam_core.proofs.TicketLemmas.{one_request_has_ticket, ticket_is_given_once}
use Rattle.roam_core.proofs.laws.provenance.Goals as goal

pub returns-clause-packets : goal.returns-clause-packets
returns-clause-packets c = each_packet_has_origin

pub returns-clause-entries : goal.returns-clause-entries
returns-clause-entries c = each_entry_has_origin

pub returns-clause-tickets : goal.returns-clause-tickets
returns-clause-tickets c = ticket_is_given_once

pub returns-clause-requests : goal.returns-clause-requests
returns-clause-requests c = one_request_has_ticket

pub returns-clause-words : goal.returns-clause-words
returns-clause-words c = words_are_drawn_in_order

pub returns-clause-apart : goal.returns-clause-apart
returns-clause-apart c = draws_are_apart

pub returns-clause-once : goal.returns-clause-once
returns-clause-once c = words_are_drawn_once
