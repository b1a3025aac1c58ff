-- The numbers of status types and of Error-Causes, as the RFCs give them. Each is a clause of a function of
-- src/session_laws.rt.
use Rattle.std.specs.Prelude.{◌≡◌, [], ◌∷◌}
use Rattle.roam_sessions.specs.declared.accounting.TheConstants as status
use Rattle.roam_sessions.specs.declared.error_cause.TheConstants as error

-- Start, Stop, Interim-Update, Accounting-On and -Off (RFC 2866, section 5.1)
abbrev pub StatusTypes : Type 0
StatusTypes =
    status.START ∷ status.STOP ∷ status.INTERIM_UPDATE ∷ status.ACCOUNTING_ON ∷ status.ACCOUNTING_OFF ∷ []
    ≡ 1 ∷ 2 ∷ 3 ∷ 7 ∷ 8 ∷ []

-- Unsupported Attribute, Invalid Request, Request Not Routable, Session Context Not Found, Other Proxy Processing
-- Error, Multiple Session Selection Unsupported (RFC 5176, section 3.5)
abbrev pub ErrorCauses : Type 0
ErrorCauses =
    error.UNSUPPORTED_ATTRIBUTE ∷ error.INVALID_REQUEST ∷ error.REQUEST_NOT_ROUTABLE
    ∷ error.SESSION_CONTEXT_NOT_FOUND ∷ error.OTHER_PROXY_PROCESSING_ERROR ∷ error.MULTIPLE_SESSION_SELECTION ∷ []
    ≡ 401 ∷ 404 ∷ 502 ∷ 503 ∷ 505 ∷ 508 ∷ []
