-- The causes why a Disconnect- or CoA-Request isn't forwarded, as the Error-Cause of the NAK that answers it (RFC 5176,
-- section 3.5, for the numbers; when each comes is ours).
use Rattle.std.specs.Prelude.{ℕ, ◌==◌, ◌||◌, nat_lt, Bool, false, List, [], ◌∷◌, Option, Some, None, if◌then◌else◌}
use Rattle.std.specs.Option.{option_or, option_map_or}
use Rattle.roam_wire.specs.Packet.{Attribute}
use Rattle.roam_wire.specs.Attributes.{count_of, first_value}
use Rattle.roam_wire.specs.declared.attribute_type.TheConstants.{ACCT_SESSION_ID, USER_NAME}
use Rattle.roam_conf.specs.Config.{PeerView, RealmView}
use Rattle.roam_sessions.specs.Sessions.{Session, agreeing, has_session, nas_in, no_nas}
use Rattle.roam_crypto.specs.Salted.{is_salted}
use Rattle.roam_sessions.specs.Target.{target_in}
use Rattle.roam_sessions.specs.declared.error_cause.TheConstants.{UNSUPPORTED_ATTRIBUTE, INVALID_REQUEST, REQUEST_NOT_ROUTABLE, SESSION_CONTEXT_NOT_FOUND, MULTIPLE_SESSION_SELECTION}

-- whether the realm that the User-Name names, if it names one, is this realm
abbrev pub is_realm : ℕ → Option ℕ → Bool
is_realm realm None = false
is_realm realm (Some named) = named == realm

-- a User-Name, if there is one, names this realm
abbrev pub cause_by_user : ℕ → Option ℕ → Option (List ℕ) → Option ℕ
cause_by_user realm named None = None
cause_by_user realm named (Some name) =
    if is_realm realm named then None else Some REQUEST_NOT_ROUTABLE

-- What a request to a peer of a realm without `own_sessions` must name, with its first User-Name, the realm which that
-- names, and its first Acct-Session-Id: a user of this realm, or else a session of that peer which is in the ledger.
-- Where there is a User-Name, the ledger isn't looked at
abbrev pub cause_by_name :
    ℕ → Option ℕ → ℕ → List Session → Option (List ℕ) → Option (List ℕ) → Option ℕ
cause_by_name realm named peer sessions (Some name) id = cause_by_user realm named (Some name)
cause_by_name realm named peer sessions None None = Some REQUEST_NOT_ROUTABLE
cause_by_name realm named peer sessions None (Some id) =
    if has_session (record { peer = peer; nas = no_nas; id = id }) sessions then None
    else Some SESSION_CONTEXT_NOT_FOUND

-- a request with several User-Names, or several Acct-Session-Ids, doesn't say which one it means
abbrev pub cause_by_count : List Attribute → Option ℕ
cause_by_count attributes =
    if nat_lt 1 (count_of USER_NAME attributes) || nat_lt 1 (count_of ACCT_SESSION_ID attributes)
    then Some INVALID_REQUEST else None

-- just one session must be meant
abbrev pub cause_by_meant : List Session → Option ℕ
cause_by_meant [] = Some SESSION_CONTEXT_NOT_FOUND
cause_by_meant (s ∷ []) = None
cause_by_meant (s ∷ t ∷ others) = Some MULTIPLE_SESSION_SELECTION

-- the sessions that a request to a peer means: those of the ledger with its first Acct-Session-Id, of that peer and of
-- the access server that its first NAS-IP-Address, NAS-Identifier and NAS-IPv6-Address name. Without an id it means
-- none
abbrev pub meant_with : ℕ → List Attribute → List Session → Option (List ℕ) → List Session
meant_with peer attributes sessions None = []
meant_with peer attributes sessions (Some id) =
    agreeing (record { peer = peer; nas = nas_in attributes; id = Some id }) sessions

abbrev pub meant : ℕ → List Attribute → List Session → List Session
meant peer attributes sessions = meant_with peer attributes sessions (first_value ACCT_SESSION_ID attributes)

-- What a request to a peer of a realm with `own_sessions` must name: just one session of that peer which is in the
-- ledger, and a user of this realm, if any
abbrev pub cause_by_session : ℕ → Option ℕ → ℕ → List Attribute → List Session → Option ℕ
cause_by_session realm named peer attributes sessions =
    option_or (cause_by_count attributes)
    (option_or (cause_by_user realm named (first_value USER_NAME attributes))
    (cause_by_meant (meant peer attributes sessions)))

-- whether a realm's reverse requests must name one of its own sessions
abbrev pub names_sessions : Option RealmView → Bool
names_sessions entry = option_map_or (λ realm. realm.own_sessions) entry false

-- what a request to a peer names, by whether it must name one of the realm's own sessions
abbrev pub cause_by_names : Bool → ℕ → Option ℕ → ℕ → List Attribute → List Session → Option ℕ
cause_by_names own realm named peer attributes sessions =
    if own then cause_by_session realm named peer attributes sessions
    else cause_by_name realm named peer sessions (first_value USER_NAME attributes)
    (first_value ACCT_SESSION_ID attributes)

-- a salted string can't be forwarded, since it is hidden for an answer to the access server
abbrev pub cause_by_salt : List Attribute → Option ℕ
cause_by_salt attributes = if is_salted attributes then Some UNSUPPORTED_ATTRIBUTE else None

-- with the peer that the request is for, if there is one
abbrev pub cause_at_target : Bool → ℕ → Option ℕ → List Attribute → List Session → Option ℕ → Option ℕ
cause_at_target own realm named attributes sessions None = Some REQUEST_NOT_ROUTABLE
cause_at_target own realm named attributes sessions (Some peer) =
    option_or (cause_by_names own realm named peer attributes sessions) (cause_by_salt attributes)

-- ## Cause of a reverse request
-- Why it isn't forwarded, for the first that holds: 502 without a target among the realm's peers; what it names; 401
-- where a salted string stands in it. With `own_sessions` that is: 404 with more than one User-Name or more than one
-- Acct-Session-Id; 502 with a User-Name of no realm or of another one; 503 without an Acct-Session-Id, or where no
-- session of the ledger with it is of that peer and of the access server that is named; 508 where several are. So what
-- is forwarded names one session of the realm's own. Without `own_sessions`: 502 with a User-Name of no realm or of
-- another one, or with neither User-Name nor Acct-Session-Id; 503 without User-Name where the session of that peer
-- isn't in the ledger. With a User-Name of the realm the ledger isn't looked at, and only the first of each type
-- counts: so a home server may name another realm's session beside a user of its own, and which session that ends
-- is the access server's to decide.
-- Source: RFC 5176 section 3.5 for the numbers; when each comes is ours
-- Rules out: causes in another order; with `own_sessions` a session of another realm, or one of several
-- Stands in: `roam_sessions` `Causes.antt`: `cause`; `route_of`, the laws `forwarded_has_target`,
-- `forwarded_is_of_one_session`, `named_requests_need_no_session`
--
-- why a reverse request to a realm, of which its entry and its index are given, isn't forwarded, if it isn't, by the
-- realm which its first User-Name names: the first cause that holds
unfoldable pub cause : Option RealmView → List PeerView → ℕ → Option ℕ → List Attribute → List Session → Option ℕ
cause entry peers realm named attributes sessions =
    cause_at_target (names_sessions entry) realm named attributes sessions (target_in entry peers attributes)
