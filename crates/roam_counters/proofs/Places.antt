-- All events and all counts of the server, in order of their places.
use Rattle.std.proofs.Common.{◌≡◌, List, [], ◌∷◌, Some, slice_get, refl}
use Rattle.roam_wire.specs.declared.refusal.Refusal.TheVariants as refusal
use Rattle.roam_counters.specs.Events.{event_place}
use Rattle.roam_counters.specs.Process.{process_place}
use Rattle.roam_counters.specs.declared.kinds.RequestKind.TheVariants as request
use Rattle.roam_counters.specs.declared.kinds.ReplyKind.TheVariants as reply
use Rattle.roam_counters.specs.declared.kinds.NakCause.TheVariants as nak
use Rattle.roam_counters.specs.declared.delay.Delay.TheVariants as delay
use Rattle.roam_counters.specs.declared.event.CountedEvent.{CountedEvent}
use Rattle.roam_counters.specs.declared.event.CountedEvent.TheVariants as event
use Rattle.roam_counters.specs.declared.process.Process.{Process}
use Rattle.roam_counters.specs.declared.process.Process.TheVariants as process

abbrev pub all_events : List CountedEvent
all_events =
    event.Request request.Access ∷ event.Request request.Accounting ∷ event.Request request.Disconnect ∷
    event.Request request.Coa ∷ event.Forwarded request.Access ∷ event.Forwarded request.Accounting ∷
    event.Forwarded request.Disconnect ∷ event.Forwarded request.Coa ∷ event.SentAgain request.Access ∷
    event.SentAgain request.Accounting ∷ event.SentAgain request.Disconnect ∷ event.SentAgain request.Coa ∷
    event.Waiting ∷ event.Reply reply.AccessAccept ∷ event.Reply reply.AccessReject ∷
    event.Reply reply.AccessChallenge ∷ event.Reply reply.AccountingResponse ∷ event.Reply reply.DisconnectAck ∷
    event.Reply reply.DisconnectNak ∷ event.Reply reply.CoaAck ∷ event.Reply reply.CoaNak ∷
    event.Returned reply.AccessAccept ∷ event.Returned reply.AccessReject ∷ event.Returned reply.AccessChallenge ∷
    event.Returned reply.AccountingResponse ∷ event.Returned reply.DisconnectAck ∷
    event.Returned reply.DisconnectNak ∷ event.Returned reply.CoaAck ∷ event.Returned reply.CoaNak ∷
    event.Answered reply.AccessAccept ∷ event.Answered reply.AccessReject ∷ event.Answered reply.AccessChallenge ∷
    event.Answered reply.AccountingResponse ∷ event.Answered reply.DisconnectAck ∷
    event.Answered reply.DisconnectNak ∷ event.Answered reply.CoaAck ∷ event.Answered reply.CoaNak ∷
    event.AnsweredByTick reply.AccessAccept ∷ event.AnsweredByTick reply.AccessReject ∷
    event.AnsweredByTick reply.AccessChallenge ∷ event.AnsweredByTick reply.AccountingResponse ∷
    event.AnsweredByTick reply.DisconnectAck ∷ event.AnsweredByTick reply.DisconnectNak ∷
    event.AnsweredByTick reply.CoaAck ∷ event.AnsweredByTick reply.CoaNak ∷ event.Refused refusal.Short ∷
    event.Refused refusal.BadLength ∷ event.Refused refusal.BadAttribute ∷ event.Refused refusal.UnknownSource ∷
    event.Refused refusal.WrongCode ∷ event.Refused refusal.BadAuthenticator ∷
    event.Refused refusal.BadMessageAuthenticator ∷ event.Refused refusal.MissingMessageAuthenticator ∷
    event.Refused refusal.NoRealm ∷ event.Refused refusal.TooLong ∷ event.Refused refusal.Exhausted ∷
    event.Refused refusal.NoIdentifier ∷ event.Refused refusal.Busy ∷ event.Refused refusal.NoEntry ∷
    event.Refused refusal.WrongReply ∷ event.Refused refusal.BadReply ∷
    event.Refused refusal.BadReplyMessageAuthenticator ∷ event.Refused refusal.ReplyTooLong ∷
    event.Refused refusal.Moment ∷ event.Refused refusal.NoShard ∷ event.Refused refusal.NoMemory ∷
    event.Refused refusal.TraceFull ∷ event.Refused refusal.Misplaced ∷ event.Refused refusal.TooManyHops ∷
    event.Refused refusal.NotForPeer ∷ event.Refused refusal.AccountingDropped ∷ event.Refused refusal.ShareTaken ∷
    event.Refused refusal.TooManyAttributes ∷ event.Refused refusal.Stale ∷
    event.TakenOver request.Access ∷ event.TakenOver request.Accounting ∷
    event.TakenOver request.Disconnect ∷ event.TakenOver request.Coa ∷
    event.FailedOver ∷ event.GivenUp ∷
    event.Replaced ∷ event.AnsweredAgain ∷
    event.LocalReject ∷ event.Nak nak.UnsupportedAttribute ∷ event.Nak nak.InvalidRequest ∷
    event.Nak nak.RequestNotRoutable ∷ event.Nak nak.SessionNotFound ∷
    event.Nak nak.OtherProxyProcessingError ∷ event.Nak nak.MultipleSessions ∷ event.AnswerWithin delay.Within10 ∷
    event.AnswerWithin delay.Within30 ∷ event.AnswerWithin delay.Within100 ∷
    event.AnswerWithin delay.Within300 ∷ event.AnswerWithin delay.Within1000 ∷
    event.AnswerWithin delay.Within3000 ∷ event.AnswerWithin delay.Within10000 ∷
    event.AnswerWithin delay.Longer ∷ event.AnswerTime ∷ event.DroppedRequest ∷ event.DroppedReply ∷
    event.DroppedSession ∷ event.LostSession ∷ event.Abandoned ∷ []

-- each stands at its place
pub event-at_place : (event : CountedEvent) → slice_get all_events (event_place event) ≡ Some event
event-at_place (event.Request request.Access) = refl
event-at_place (event.Request request.Accounting) = refl
event-at_place (event.Request request.Disconnect) = refl
event-at_place (event.Request request.Coa) = refl
event-at_place (event.Forwarded request.Access) = refl
event-at_place (event.Forwarded request.Accounting) = refl
event-at_place (event.Forwarded request.Disconnect) = refl
event-at_place (event.Forwarded request.Coa) = refl
event-at_place (event.SentAgain request.Access) = refl
event-at_place (event.SentAgain request.Accounting) = refl
event-at_place (event.SentAgain request.Disconnect) = refl
event-at_place (event.SentAgain request.Coa) = refl
event-at_place event.Waiting = refl
event-at_place (event.Reply reply.AccessAccept) = refl
event-at_place (event.Reply reply.AccessReject) = refl
event-at_place (event.Reply reply.AccessChallenge) = refl
event-at_place (event.Reply reply.AccountingResponse) = refl
event-at_place (event.Reply reply.DisconnectAck) = refl
event-at_place (event.Reply reply.DisconnectNak) = refl
event-at_place (event.Reply reply.CoaAck) = refl
event-at_place (event.Reply reply.CoaNak) = refl
event-at_place (event.Returned reply.AccessAccept) = refl
event-at_place (event.Returned reply.AccessReject) = refl
event-at_place (event.Returned reply.AccessChallenge) = refl
event-at_place (event.Returned reply.AccountingResponse) = refl
event-at_place (event.Returned reply.DisconnectAck) = refl
event-at_place (event.Returned reply.DisconnectNak) = refl
event-at_place (event.Returned reply.CoaAck) = refl
event-at_place (event.Returned reply.CoaNak) = refl
event-at_place (event.Answered reply.AccessAccept) = refl
event-at_place (event.Answered reply.AccessReject) = refl
event-at_place (event.Answered reply.AccessChallenge) = refl
event-at_place (event.Answered reply.AccountingResponse) = refl
event-at_place (event.Answered reply.DisconnectAck) = refl
event-at_place (event.Answered reply.DisconnectNak) = refl
event-at_place (event.Answered reply.CoaAck) = refl
event-at_place (event.Answered reply.CoaNak) = refl
event-at_place (event.AnsweredByTick reply.AccessAccept) = refl
event-at_place (event.AnsweredByTick reply.AccessReject) = refl
event-at_place (event.AnsweredByTick reply.AccessChallenge) = refl
event-at_place (event.AnsweredByTick reply.AccountingResponse) = refl
event-at_place (event.AnsweredByTick reply.DisconnectAck) = refl
event-at_place (event.AnsweredByTick reply.DisconnectNak) = refl
event-at_place (event.AnsweredByTick reply.CoaAck) = refl
event-at_place (event.AnsweredByTick reply.CoaNak) = refl
event-at_place (event.Refused refusal.Short) = refl
event-at_place (event.Refused refusal.BadLength) = refl
event-at_place (event.Refused refusal.BadAttribute) = refl
event-at_place (event.Refused refusal.UnknownSource) = refl
event-at_place (event.Refused refusal.WrongCode) = refl
event-at_place (event.Refused refusal.BadAuthenticator) = refl
event-at_place (event.Refused refusal.BadMessageAuthenticator) = refl
event-at_place (event.Refused refusal.MissingMessageAuthenticator) = refl
event-at_place (event.Refused refusal.NoRealm) = refl
event-at_place (event.Refused refusal.TooLong) = refl
event-at_place (event.Refused refusal.Exhausted) = refl
event-at_place (event.Refused refusal.NoIdentifier) = refl
event-at_place (event.Refused refusal.Busy) = refl
event-at_place (event.Refused refusal.NoEntry) = refl
event-at_place (event.Refused refusal.WrongReply) = refl
event-at_place (event.Refused refusal.BadReply) = refl
event-at_place (event.Refused refusal.BadReplyMessageAuthenticator) = refl
event-at_place (event.Refused refusal.ReplyTooLong) = refl
event-at_place (event.Refused refusal.Moment) = refl
event-at_place (event.Refused refusal.NoShard) = refl
event-at_place (event.Refused refusal.NoMemory) = refl
event-at_place (event.Refused refusal.TraceFull) = refl
event-at_place (event.Refused refusal.Misplaced) = refl
event-at_place (event.Refused refusal.TooManyHops) = refl
event-at_place (event.Refused refusal.NotForPeer) = refl
event-at_place (event.Refused refusal.AccountingDropped) = refl
event-at_place (event.Refused refusal.ShareTaken) = refl
event-at_place (event.Refused refusal.TooManyAttributes) = refl
event-at_place (event.Refused refusal.Stale) = refl
event-at_place (event.TakenOver request.Access) = refl
event-at_place (event.TakenOver request.Accounting) = refl
event-at_place (event.TakenOver request.Disconnect) = refl
event-at_place (event.TakenOver request.Coa) = refl
event-at_place event.FailedOver = refl
event-at_place event.GivenUp = refl
event-at_place event.Replaced = refl
event-at_place event.AnsweredAgain = refl
event-at_place event.LocalReject = refl
event-at_place (event.Nak nak.UnsupportedAttribute) = refl
event-at_place (event.Nak nak.InvalidRequest) = refl
event-at_place (event.Nak nak.RequestNotRoutable) = refl
event-at_place (event.Nak nak.SessionNotFound) = refl
event-at_place (event.Nak nak.OtherProxyProcessingError) = refl
event-at_place (event.Nak nak.MultipleSessions) = refl
event-at_place (event.AnswerWithin delay.Within10) = refl
event-at_place (event.AnswerWithin delay.Within30) = refl
event-at_place (event.AnswerWithin delay.Within100) = refl
event-at_place (event.AnswerWithin delay.Within300) = refl
event-at_place (event.AnswerWithin delay.Within1000) = refl
event-at_place (event.AnswerWithin delay.Within3000) = refl
event-at_place (event.AnswerWithin delay.Within10000) = refl
event-at_place (event.AnswerWithin delay.Longer) = refl
event-at_place event.AnswerTime = refl
event-at_place event.DroppedRequest = refl
event-at_place event.DroppedReply = refl
event-at_place event.DroppedSession = refl
event-at_place event.LostSession = refl
event-at_place event.Abandoned = refl

abbrev pub all_processes : List Process
all_processes =
    process.ReceivedAuth ∷ process.ReceivedAcct ∷ process.ReceivedOut ∷ process.ReceivedReverse ∷ process.Sent ∷
    process.LostFullRing ∷ process.LostUnreachable ∷ process.LostNotPermitted ∷ process.LostOther ∷ process.Step ∷
    process.StepLetGo ∷ process.TimeLetGo ∷ process.LineDropped ∷ process.NoteMissed ∷ process.DatagramTaken ∷
    process.DatagramAnswered ∷ process.DatagramRefused ∷ process.DatagramFailed ∷ process.DatagramDropped ∷ []

pub process-at_place : (process : Process) → slice_get all_processes (process_place process) ≡ Some process
process-at_place process.ReceivedAuth = refl
process-at_place process.ReceivedAcct = refl
process-at_place process.ReceivedOut = refl
process-at_place process.ReceivedReverse = refl
process-at_place process.Sent = refl
process-at_place process.LostFullRing = refl
process-at_place process.LostUnreachable = refl
process-at_place process.LostNotPermitted = refl
process-at_place process.LostOther = refl
process-at_place process.Step = refl
process-at_place process.StepLetGo = refl
process-at_place process.TimeLetGo = refl
process-at_place process.LineDropped = refl
process-at_place process.NoteMissed = refl
process-at_place process.DatagramTaken = refl
process-at_place process.DatagramAnswered = refl
process-at_place process.DatagramRefused = refl
process-at_place process.DatagramFailed = refl
process-at_place process.DatagramDropped = refl
