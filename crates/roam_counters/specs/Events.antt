-- The events that are counted of a realm, a home server or a peer. Ours.
use Rattle.std.specs.Prelude.{ℕ, ◌+◌}
use Rattle.roam_wire.specs.Refusal.{number_of}
use Rattle.roam_counters.specs.Kinds.{cause_place, request_place, reply_place}
use Rattle.roam_counters.specs.Delays.{delay_place}
use Rattle.roam_counters.specs.declared.event.CountedEvent.{CountedEvent}
use Rattle.roam_counters.specs.declared.event.CountedEvent.TheVariants as event

-- its place among all events, from 0
abbrev pub event_place : CountedEvent → ℕ
event_place (event.Request kind) = request_place kind
event_place (event.Forwarded kind) = 4 + request_place kind
event_place (event.SentAgain kind) = 8 + request_place kind
event_place event.Waiting = 12
event_place (event.Reply kind) = 13 + reply_place kind
event_place (event.Returned kind) = 21 + reply_place kind
event_place (event.Answered kind) = 29 + reply_place kind
event_place (event.AnsweredByTick kind) = 37 + reply_place kind
event_place (event.Refused refusal) = 44 + number_of refusal
event_place (event.TakenOver kind) = 74 + request_place kind
event_place event.FailedOver = 78
event_place event.GivenUp = 79
event_place event.Replaced = 80
event_place event.AnsweredAgain = 81
event_place event.LocalReject = 82
event_place (event.Nak cause) = 83 + cause_place cause
event_place (event.AnswerWithin delay) = 89 + delay_place delay
event_place event.AnswerTime = 97
event_place event.DroppedRequest = 98
event_place event.DroppedReply = 99
event_place event.DroppedSession = 100
event_place event.LostSession = 101
event_place event.Abandoned = 102
