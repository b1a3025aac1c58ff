-- The line of an exchange that ended. Ours.
use Rattle.std.specs.Prelude.{ℕ, ◌==◌, Bool, true, false, List, [], ◌++◌, Option, Some, None, option_map, if◌then◌else◌, codes, slice_get}
use Rattle.std.specs.Fmt.{decimal}
use Rattle.roam_conf.specs.Config.{ConfigView, PeerView, RealmView}
use Rattle.roam_address.specs.declared.endpoint.Endpoint.{Endpoint}
use Rattle.roam_address.specs.Endpoints.{endpoint_text}
use Rattle.roam_conf.specs.declared.exchange_lines.ExchangeLines.{ExchangeLines}
use Rattle.roam_conf.specs.declared.exchange_lines.ExchangeLines.TheVariants as lines
use Rattle.roam_log.specs.declared.exchange.RequestWord.{RequestWord}
use Rattle.roam_log.specs.declared.exchange.RequestWord.TheVariants as asked
use Rattle.roam_log.specs.declared.exchange.Exchange.{Exchange}
use Rattle.roam_log.specs.declared.exchange.Silence.{Silence}
use Rattle.roam_log.specs.declared.exchange.Silence.TheVariants as silence
use Rattle.roam_log.specs.declared.exchange.ExchangeEnd.{ExchangeEnd}
use Rattle.roam_log.specs.declared.exchange.ExchangeEnd.TheVariants as outcome
use Rattle.roam_admission.specs.declared.local_answer.RejectCause.{RejectCause}
use Rattle.roam_admission.specs.declared.local_answer.RejectCause.TheVariants as cause
use Rattle.roam_log.specs.Details.{details_text}
use Rattle.roam_log.specs.ErrorCauses.{error_cause_text}
use Rattle.roam_log.specs.Values.{digits_text, octets_if, value_text}
use Rattle.roam_log.specs.Hashes.{hash_of}
use Rattle.roam_log.specs.declared.form.StationForm.{StationForm}
use Rattle.roam_log.specs.declared.form.StationForm.TheVariants as form

-- ## Line of an exchange
-- How it ended, by the code of what was returned; what was asked; the realm's and the peer's name, User-Name
-- and Calling-Station-Id between quotation marks, each octet that isn't printable in ASCII, a quotation mark or
-- a reverse solidus written by two hexadecimal digits; the home server; milliseconds; tries; of a login with several
-- rounds how many, and the milliseconds since the first; and its details. What is
-- written of a value is printable, and reads back as that value. For a station its hash may stand, in 16 digits.
-- Source: ours; RFC 20 (printable)
-- Rules out: a User-Name that forges a line or ends its value; a station in clear where its hash is wanted
-- Stands in: `roam_log` `Exchanges.antt`: `outcome_of`, `asked_of`, `exchange_text`; `Printable.antt`:
-- `ValuesArePrintable`; `Quoted.antt`: `Reads`, `ReadsBack`; `push_exchange`, the laws `values_are_printable`,
-- `values_read_back`
--
-- how an exchange ended, by the code of the reply that was returned
abbrev pub outcome_of : ℕ → Option ExchangeEnd
outcome_of code =
    if code == 2 then Some outcome.Accept
    else if code == 3 then Some outcome.Reject
    else if code == 11 then Some outcome.Challenge
    else if code == 5 then Some outcome.Response
    else if code == 41 then Some outcome.Ack
    else if code == 44 then Some outcome.Ack
    else if code == 42 then Some outcome.Nak
    else if code == 45 then Some outcome.Nak
    else None

-- an accept, a reject, an answer to session control, none from any server, or a conversation that was left: what ends a
-- login, and not a round of EAP
abbrev pub is_final : ExchangeEnd → Bool
is_final outcome.Challenge = false
is_final outcome.Response = false
is_final outcome.Replaced = false
is_final _ = true

-- a conversation was left
abbrev pub is_abandoned : ExchangeEnd → Bool
is_abandoned outcome.Abandoned = true
is_abandoned _ = false

-- ## Exchanges of which a line tells
-- All; or final ones, which are those of an accept, a reject, session control, no answer of any server, or a
-- conversation that was left; or none.
-- Source: ours
-- Stands in: `roam_log` `Exchanges.antt`: `is_final`, `is_told`; `ExchangeEnd::is_told`, `Exchanges::are_told`;
-- `roam_conf_reader` `Values.antt`: `exchange_lines`
--
-- whether a line tells of it
abbrev pub is_told : ExchangeLines → ExchangeEnd → Bool
is_told lines.OfAll end = true
is_told lines.OfFinal end = is_final end
is_told lines.OfNone end = false

-- what was asked, by the request's code
abbrev pub asked_of : ℕ → RequestWord
asked_of code =
    if code == 1 then asked.Access
    else if code == 4 then asked.Accounting
    else if code == 40 then asked.Disconnect
    else if code == 43 then asked.Coa
    else asked.Other

-- the station as it stands, or its hash, or that it isn't told: these have no quotation marks, so that no station looks
-- like one
abbrev pub station_text : StationForm → Option (List ℕ) → List ℕ
station_text form.Clear (Some station) = value_text (codes " station=") (Some station)
station_text (form.Hashed key) (Some station) = codes " station=hmac:" ++ digits_text (hash_of key.block station)
station_text form.Hidden (Some station) = codes " station=hidden"
station_text _ None = value_text (codes " station=") None

abbrev pub server_text : Option Endpoint → List ℕ
server_text None = codes " server=" ++ codes "-"
server_text (Some e) = codes " server=" ++ endpoint_text e

abbrev pub outcome_word : ExchangeEnd → List ℕ
outcome_word outcome.Accept = codes "accept"
outcome_word outcome.Reject = codes "reject"
outcome_word outcome.Challenge = codes "challenge"
outcome_word outcome.Response = codes "response"
outcome_word outcome.Ack = codes "ack"
outcome_word outcome.Nak = codes "nak"
outcome_word outcome.GivenUp = codes "given_up"
outcome_word outcome.Replaced = codes "replaced"
outcome_word outcome.LocalReject = codes "local_reject"
outcome_word outcome.Abandoned = codes "abandoned"

abbrev pub asked_word : RequestWord → List ℕ
asked_word asked.Access = codes "access"
asked_word asked.Accounting = codes "accounting"
asked_word asked.Disconnect = codes "disconnect"
asked_word asked.Coa = codes "coa"
asked_word asked.Other = codes "other"

-- the names of a realm and of a peer, where there is one of this index
abbrev pub realm_name : List RealmView → Option ℕ → Option (List ℕ)
realm_name realms None = None
realm_name realms (Some n) = option_map (λ (r : RealmView). r.name) (slice_get realms n)

abbrev pub peer_name : List PeerView → Option ℕ → Option (List ℕ)
peer_name peers None = None
peer_name peers (Some n) = option_map (λ (p : PeerView). p.name) (slice_get peers n)

-- who asked for what, and how that ended
abbrev pub who_text : ConfigView → Exchange → List ℕ
who_text config exchange =
    codes "exchange result=" ++ outcome_word exchange.outcome ++
    codes " request=" ++ asked_word exchange.asked ++
    value_text (codes " realm=") (realm_name config.realms exchange.realm) ++
    value_text (codes " peer=") (peer_name config.peers exchange.peer)

-- how many they were, where it was not one
abbrev pub times_text : ℕ → List ℕ
times_text times = if times == 1 then [] else (codes " times=" ++ decimal times)

-- why the broker rejected it by itself
abbrev pub cause_word : RejectCause → List ℕ
cause_word cause.NoUserName = codes "no_user_name"
cause_word cause.NoRealmPart = codes "no_realm_part"
cause_word cause.UnknownRealm = codes "unknown_realm"
cause_word cause.NotForPeer = codes "not_for_peer"
cause_word cause.Passwords = codes "passwords"
cause_word cause.TooManyHops = codes "too_many_hops"

abbrev pub why_text : Option RejectCause → List ℕ
why_text None = []
why_text (Some cause) = codes " why=" ++ cause_word cause

-- how the home server of one that was given up is silent
abbrev pub silence_text : Option Silence → List ℕ
silence_text None = []
silence_text (Some silence.Never) = codes " why=never_answered"
silence_text (Some silence.Stopped) = codes " why=stopped_answering"

-- what is usually wrong then
abbrev pub advice_text : Option Silence → List ℕ
advice_text (Some silence.Never) =
    codes " hint=\"wrong secret on either side, wrong port, or this proxy is not a client there\""
advice_text _ = []

-- where that is said, why it was rejected or given up, how many were so, and its details
abbrev pub known_text : Exchange → List ℕ
known_text exchange =
    why_text exchange.why ++ silence_text exchange.silence ++ times_text exchange.times ++
    details_text exchange.details

-- the same, the Error-Cause of a NAK, and what is usually wrong
abbrev pub more_text : Exchange → List ℕ
more_text exchange =
    known_text exchange ++ error_cause_text exchange.error_cause ++ advice_text exchange.silence

-- which round of its conversation it was, and how long this took from its first request on, where that is told
abbrev pub rounds_text : ℕ → ℕ → List ℕ
rounds_text rounds milliseconds =
    if rounds == 0
    then []
    else (codes " rounds=" ++ decimal rounds ++ codes " login_ms=" ++ decimal milliseconds)

abbrev pub further_text : Exchange → List ℕ
further_text exchange = rounds_text exchange.rounds exchange.since_first ++ more_text exchange

-- for whom it was, where it went, how long it took, and what else is said
abbrev pub rest_text : StationForm → Exchange → List ℕ
rest_text form exchange =
    value_text (codes " user=") (octets_if exchange.user) ++
    station_text form (octets_if exchange.station) ++
    server_text exchange.server ++
    codes " ms=" ++ decimal exchange.milliseconds ++
    codes " tries=" ++ decimal exchange.tries ++
    further_text exchange

-- the line
abbrev pub exchange_text : ConfigView → StationForm → Exchange → List ℕ
exchange_text config form exchange = who_text config exchange ++ rest_text form exchange
