-- From which round a new request goes on: a word of private functions alone (ours).
use Rattle.std.specs.Prelude.{ℕ, List, Option, None, option_map, option_and_then}
use Rattle.roam_wire.specs.Reading.{packet_of}
use Rattle.roam_pending.specs.Conversations.{last_round}
use Rattle.roam_pending.specs.PlainEntry.{PlainEntry, PlainRequest}
use Rattle.roam_pending.specs.declared.key.Requester.{Requester}
use Rattle.roam_pending.specs.declared.key.Requester.TheVariants as requester
use Rattle.roam_realm.specs.Conversing.{state_in}

-- the ticket of the last round of this State, of the same sender
abbrev pub round_ticket : Requester → List ℕ → List PlainEntry → Option ℕ
round_ticket (requester.Peer peer) state entries = option_map (λ e. e.ticket) (last_round peer state entries)
round_ticket (requester.Home server) state entries = None

-- that of a request's State
abbrev pub ticket_before : PlainRequest → List PlainEntry → Option ℕ
ticket_before q entries =
    option_and_then (λ state. round_ticket q.requester state entries) (state_in (packet_of q.octets))
