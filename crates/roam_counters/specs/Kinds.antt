-- The kinds of requests and replies, by their codes (RFC 2865 section 3, RFC 2866 section 3, RFC 5176 section 2.3).
use Rattle.std.specs.Prelude.{ℕ, ◌==◌, Option, Some, None, if◌then◌else◌}
use Rattle.roam_counters.specs.declared.kinds.RequestKind.{RequestKind}
use Rattle.roam_counters.specs.declared.kinds.RequestKind.TheVariants as request
use Rattle.roam_counters.specs.declared.kinds.ReplyKind.{ReplyKind}
use Rattle.roam_counters.specs.declared.kinds.ReplyKind.TheVariants as reply
use Rattle.roam_counters.specs.declared.kinds.NakCause.{NakCause}
use Rattle.roam_counters.specs.declared.kinds.NakCause.TheVariants as nak

abbrev pub request_of : ℕ → Option RequestKind
request_of code =
    if code == 1 then Some request.Access
    else if code == 4 then Some request.Accounting
    else if code == 40 then Some request.Disconnect
    else if code == 43 then Some request.Coa
    else None

abbrev pub reply_of : ℕ → Option ReplyKind
reply_of code =
    if code == 2 then Some reply.AccessAccept
    else if code == 3 then Some reply.AccessReject
    else if code == 11 then Some reply.AccessChallenge
    else if code == 5 then Some reply.AccountingResponse
    else if code == 41 then Some reply.DisconnectAck
    else if code == 42 then Some reply.DisconnectNak
    else if code == 44 then Some reply.CoaAck
    else if code == 45 then Some reply.CoaNak
    else None

-- their places, from 0. Ours.
abbrev pub request_place : RequestKind → ℕ
request_place request.Access = 0
request_place request.Accounting = 1
request_place request.Disconnect = 2
request_place request.Coa = 3

abbrev pub reply_place : ReplyKind → ℕ
reply_place reply.AccessAccept = 0
reply_place reply.AccessReject = 1
reply_place reply.AccessChallenge = 2
reply_place reply.AccountingResponse = 3
reply_place reply.DisconnectAck = 4
reply_place reply.DisconnectNak = 5
reply_place reply.CoaAck = 6
reply_place reply.CoaNak = 7

-- the broker's own NAKs, by their Error-Cause (RFC 5176, section 3.5), and their places
abbrev pub cause_of : ℕ → Option NakCause
cause_of cause =
    if cause == 401 then Some nak.UnsupportedAttribute
    else if cause == 404 then Some nak.InvalidRequest
    else if cause == 502 then Some nak.RequestNotRoutable
    else if cause == 503 then Some nak.SessionNotFound
    else if cause == 505 then Some nak.OtherProxyProcessingError
    else if cause == 508 then Some nak.MultipleSessions
    else None

abbrev pub cause_place : NakCause → ℕ
cause_place nak.UnsupportedAttribute = 0
cause_place nak.InvalidRequest = 1
cause_place nak.RequestNotRoutable = 2
cause_place nak.SessionNotFound = 3
cause_place nak.OtherProxyProcessingError = 4
cause_place nak.MultipleSessions = 5
