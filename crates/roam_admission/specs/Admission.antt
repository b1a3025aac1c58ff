-- The result of an arrival: a refusal, a local answer, or an event of a realm (RFC 2865 sections 2.3 and 3, RFC 2866,
-- RFC 5176, RFC 5997; the order of the checks is ours).
use Rattle.std.specs.Prelude.{ℕ, ◌==◌, ◌&&◌, ◌||◌, not, nat_lt, nat_le, Bool, true, false, List, [], ◌∷◌, length, Option, Some, None, option_map, is_some, slice_get, Result, Ok, Err, if◌then◌else◌}
use Rattle.std.specs.Option.{option_map_or}
use Rattle.roam_wire.specs.Packet.{Attribute, Packet, packet_text}
use Rattle.roam_wire.specs.Attributes.{count_of, first_value}
use Rattle.roam_wire.specs.Codes.{is_access_reply, is_reverse_request, is_reverse_reply}
use Rattle.roam_wire.specs.Reading.{reading}
use Rattle.roam_wire.specs.declared.attribute_type.TheConstants.{EAP_MESSAGE, MESSAGE_AUTHENTICATOR, PROXY_STATE, USER_NAME}
use Rattle.roam_wire.specs.declared.code.TheConstants.{ACCESS_REQUEST, ACCOUNTING_REQUEST, ACCOUNTING_RESPONSE, STATUS_SERVER}
use Rattle.roam_wire.specs.declared.refusal.Refusal.{Refusal}
use Rattle.roam_wire.specs.declared.refusal.Refusal.TheVariants as refusal
use Rattle.roam_wire.specs.declared.packet_size.TheConstants.{MAX_PACKET_LENGTH}
use Rattle.roam_crypto.specs.Authenticators.{zero_octets}
use Rattle.roam_crypto.specs.Deciding.{is_signed_request, is_well_sealed}
use Rattle.roam_conf.specs.Config.{ConfigView, PeerView}
use Rattle.roam_conf.specs.Lookup.{asker_at, link_in, home_in}
use Rattle.roam_conf.specs.Secrets as secrets
use Rattle.roam_conf.specs.declared.accounting.Accounting.{Accounting}
use Rattle.roam_conf.specs.declared.accounting.Accounting.TheVariants.{Forwarded, Answered, Dropped}
use Rattle.roam_conf.specs.declared.place.Link.{Link}
use Rattle.roam_conf.specs.declared.place.Link.TheVariants as link
use Rattle.roam_conf.specs.declared.place.Place.{Place}
use Rattle.roam_conf.specs.declared.place.Place.TheVariants as place
pub use Rattle.roam_admission.specs.Arrivals.{Arrival, PlainJob, PlainOut}
use Rattle.roam_admission.specs.Freshness.{is_fresh}
use Rattle.roam_admission.specs.UserName.{realm_of}
use Rattle.roam_admission.specs.LocalAnswer.{accounting_answer, answer_length, local_reject, status_answer, status_code}
use Rattle.roam_admission.specs.LocalReject.{has_too_many_hops, is_rejected, takes_of}
use Rattle.roam_admission.specs.RejectCauses.{reject_cause}
use Rattle.roam_admission.specs.Shapings.{sent_length}
use Rattle.roam_admission.specs.declared.job.Side.{Side}
use Rattle.roam_admission.specs.declared.job.Side.TheVariants as side
use Rattle.roam_admission.specs.declared.local_answer.LocalAnswer.{LocalAnswer}
use Rattle.roam_admission.specs.declared.local_answer.LocalAnswer.TheVariants as local
use Rattle.roam_admission.specs.declared.local_answer.RejectCause.{RejectCause}

-- what an arrival gives; what is answered here is answered by the broker itself, as what that says
pub data Admission : Type 0 where
  refused : Refusal → Admission
  answered_here : LocalAnswer → PlainOut → Admission
  admitted : PlainJob → Admission

-- who the source is at a place, if it shares a secret with the broker there: a peer by its address, a
-- link of the realm by its endpoint, a home server of the realm by its address, or else a `coa_client` of the realm by
-- its own (RFC 2865, section 3)
abbrev pub sender : ConfigView → Arrival → Place → Option Side
sender config a (place.Auth nth) = option_map (λ i. side.Peer i) (asker_at config.auth config.peers nth a.from.ip)
sender config a (place.Acct nth) = option_map (λ i. side.Peer i) (asker_at config.acct config.peers nth a.from.ip)
sender config a (place.Out realm nth) = option_map (λ l. side.Link l) (link_in config realm nth a.from)
sender config a (place.Reverse realm nth) = option_map (λ i. side.Home i) (home_in config realm nth a.from.ip)

-- the secret shared with a peer; with a source of a realm's reverse requests
abbrev pub peer_secret : ConfigView → ℕ → List ℕ
peer_secret config i = secrets.peer_secret config.peers i

abbrev pub home_secret : ConfigView → ℕ → ℕ → List ℕ
home_secret config realm i = secrets.home_secret_in config realm i

-- the codes that a link sends (RFC 2865 section 4, RFC 2866 section 4, RFC 5176 section 2.3)
abbrev pub is_code_of_link : Link → ℕ → Bool
is_code_of_link (link.Auth server out) code = is_access_reply code
is_code_of_link (link.Acct server out) code = code == ACCOUNTING_RESPONSE
is_code_of_link (link.Coa peer out) code = is_reverse_reply code

-- ## Codes that are taken
-- At `auth` from a peer an Access-Request; at `acct` from a peer an Accounting-Request; at both from a peer a
-- Status-Server, where `status_server` is set; at a realm's reverse endpoint from one of its home servers a
-- Disconnect- or CoA-Request; at its `out` the replies of the link from which they come: of an `auth`
-- Access-Accept, -Reject and -Challenge, of an `acct` Accounting-Response, of a `coa` the ACKs and NAKs of both
-- kinds. Any other is refused (5)
-- Source: RFC 2865 section 4, RFC 2866 section 4, RFC 5176 section 2.3, RFC 5997 section 3; the places ours
-- Rules out: a Disconnect from an access server; a reply of a code that this server has no business to send
-- Stands in: `roam_admission` `Admission.antt`: `is_taken`, `is_code_of_link`, `is_status_request`; `prepare`
--
-- whether a code is taken at a place from a sender
abbrev pub is_taken : Place → Side → ℕ → Bool
is_taken (place.Auth nth) (side.Peer i) code = code == ACCESS_REQUEST
is_taken (place.Acct nth) (side.Peer i) code = code == ACCOUNTING_REQUEST
is_taken (place.Out realm nth) (side.Link l) code = is_code_of_link l code
is_taken (place.Reverse realm nth) (side.Home i) code = is_reverse_request code
is_taken _ _ code = false

-- a check with its refusal, and what follows where it holds
abbrev pub checked : Bool → Refusal → Admission → Admission
checked holds why further = if holds then further else refused why

-- whether a request is signed where its code says that it is (RFC 2866 section 3, RFC 5176 section 2.3)
abbrev pub is_rightly_signed : List ℕ → Packet → Bool
is_rightly_signed secret p = p.code == ACCESS_REQUEST || is_signed_request secret p

-- ## Authenticators that count for a seal
-- An Access-Request's own, and a Status-Server's; 16 zero octets for an Accounting-, Disconnect- or
-- CoA-Request; the forwarded request's for Access replies; that one or zeros for the other replies. A returned
-- packet is sealed over its request's own.
-- Source: RFC 3579 section 3.2; the choice for accounting and reverse packets is ours
-- (`docs/INTEROPERABILITY.md`)
-- Rules out: a reply sealed for another request taken
-- Stands in: of requests `roam_admission` `Admission.antt`: `is_rightly_sealed`; `prepare`. Of replies `roam_reply`
-- `ReplyCheck.antt`: `sealing_authenticators`; `check_reply`
--
-- whether it is well sealed: over its own Authenticator in an Access-Request (RFC 3579, section 3.2), over
-- zeros in any other (RFC 5176, section 3.4; in accounting ours)
abbrev pub is_rightly_sealed : List ℕ → Packet → Bool
is_rightly_sealed secret p =
    is_well_sealed secret ((if p.code == ACCESS_REQUEST then p.authenticator else zero_octets) ∷ []) p

-- whether an Access-Request has a Message-Authenticator where it must: with an EAP-Message (RFC 3579,
-- section 3.1), and from a peer of which it is required (ours)
abbrev pub has_needed_seal : Bool → Packet → Bool
has_needed_seal required p =
    not (p.code == ACCESS_REQUEST)
    || nat_lt 0 (count_of MESSAGE_AUTHENTICATOR p.attributes)
    || (count_of EAP_MESSAGE p.attributes == 0 && not required)

-- whether a peer is to seal an Access-Request: each, or each that has a Proxy-State, which an attack on an unsealed
-- one needs (CVE-2024-3596)
abbrev pub wants_seal : PeerView → Packet → Bool
wants_seal peer p =
    peer.require_seal || (peer.limit_proxy_state && nat_lt 0 (count_of PROXY_STATE p.attributes))

-- whether a sender is required to seal an Access-Request
abbrev pub seal_required : ConfigView → Side → Packet → Bool
seal_required config (side.Peer i) p = option_map_or (λ peer. wants_seal peer p) (slice_get config.peers i) false
seal_required config _ p = false

-- ## Attributes
-- A request may have so many attributes as `max_attributes` says, where that is set: one with more is refused (28)
-- before a digest of it is looked at, whatever its code. What came is counted; what is forwarded may have five
-- more. Replies aren't counted.
-- Source: ours
-- Rules out: a request whose many attributes are gone through again and again before it is known to be anybody's
-- Stands in: `roam_admission` `Admission.antt`: `has_few_attributes`; `prepare`
--
-- whether a request has no more attributes than may be, where there is a limit
abbrev pub has_few_attributes : Option ℕ → Packet → Bool
has_few_attributes None p = true
has_few_attributes (Some most) p = nat_le (length p.attributes) most

-- whether a request that is forwarded hasn't too many hops: an Access-Request that has is answered by a
-- local reject (ours)
abbrev pub has_few_hops : Option ℕ → Packet → Bool
has_few_hops most p = p.code == ACCESS_REQUEST || not (has_too_many_hops most p)

-- a packet that passed, as the event of a realm, with the realm that it names
abbrev pub job_of : Arrival → Side → Packet → ℕ → Option ℕ → Admission
job_of a s p realm names =
    admitted (record {
      realm = realm;
      place = a.at;
      from = a.from;
      side = s;
      octets = packet_text p;
      named = names;
      keeps_session = a.keeps_session;
    })

-- a request of a realm, where the packet that is forwarded for it has at most 4096 octets
abbrev pub forwarded_for : ℕ → Arrival → Side → Packet → ℕ → Option ℕ → Admission
forwarded_for size a s p realm names =
    checked (nat_le size MAX_PACKET_LENGTH) refusal.TooLong (job_of a s p realm names)

-- an answer of the broker itself: it carries no realm, and goes back to where the request came from
abbrev pub answered_by : LocalAnswer → Arrival → Packet → Admission
answered_by what a answer =
    answered_here what (record { realm = None; from = a.at; to = a.from; bytes = packet_text answer })

-- ## Local reject as sent
-- It leaves from the place where the request came, goes back to its source, and carries no realm's tag. It is
-- there for each such arrival, whatever came before and at whatever time, a duplicate too; no state changes.
-- Source: ours
-- Rules out: a reject that takes a realm's place or Identifier; one of a realm's packets that is tagged for
-- none
-- Stands in: `roam_admission` `Admission.antt`: `rejected_for`; `prepare`. `roam_core` `Events.antt`: `reject_of`,
-- `local_rejects`; `run` (`rejects`)
--
-- the local reject, where it has at most 4096 octets
abbrev pub rejected_for : RejectCause → List ℕ → Arrival → Packet → Admission
rejected_for why secret a p =
    checked (nat_le (answer_length p) MAX_PACKET_LENGTH) refusal.TooLong
    (answered_by (local.Rejected why) a (local_reject secret p))

-- a request that names its realm, or none
abbrev pub for_named_realm : ConfigView → Arrival → Side → Packet → Option ℕ → Admission
for_named_realm config a s p None = refused refusal.NoRealm
for_named_realm config a s p (Some realm) = forwarded_for (sent_length config s p realm) a s p realm (Some realm)

-- what becomes of a realm's accounting
abbrev pub accounting_in : ConfigView → ℕ → Accounting
accounting_in config realm = option_map_or (λ r. r.accounting) (slice_get config.realms realm) Forwarded

-- an Accounting-Request of a realm, by what becomes of that, and by the size of what is forwarded
abbrev pub by_accounting : ℕ → List ℕ → Arrival → Side → Packet → ℕ → Accounting → Admission
by_accounting size secret a s p realm Forwarded = forwarded_for size a s p realm (Some realm)
by_accounting size secret a s p realm Answered = answered_by local.Response a (accounting_answer secret p)
by_accounting size secret a s p realm Dropped = refused refusal.AccountingDropped

-- an Accounting-Request that names its realm, or none: the realm has to take the sender's requests
abbrev pub accounted : ConfigView → List ℕ → Arrival → Side → Packet → Option ℕ → Admission
accounted config secret a s p None = refused refusal.NoRealm
accounted config secret a s p (Some realm) =
    checked (takes_of config realm s) refusal.NotForPeer
    (by_accounting (sent_length config s p realm) secret a s p realm (accounting_in config realm))

-- whether a request has no User-Name
abbrev pub is_unnamed : List Attribute → Bool
is_unnamed attributes = not (is_some (first_value USER_NAME attributes))

-- whether an Accounting-Request is answered since it has none
abbrev pub is_answered_unnamed : ConfigView → Packet → Bool
is_answered_unnamed config p = config.answer_unnamed && is_unnamed p.attributes

-- a request of a home server, for the realm of its place, where it isn't stale
abbrev pub reversed : ConfigView → Arrival → Side → Packet → ℕ → Admission
reversed config a s p realm =
    checked (is_fresh config.fresh a.seconds p.attributes) refusal.Stale
    (forwarded_for (sent_length config s p realm) a s p realm (realm_of config p.attributes))

-- what a request that passed the checks of its signature and seal gives: to the realm of its place
-- where it came from a home server; else to the realm that it names
abbrev pub route_request : ConfigView → List ℕ → Arrival → Side → Packet → Place → Admission
route_request config secret a s p (place.Reverse realm nth) = reversed config a s p realm
route_request config secret a s p (place.Auth nth) =
    if is_rejected config s p then rejected_for (reject_cause config s p) secret a p
    else for_named_realm config a s p (realm_of config p.attributes)
route_request config secret a s p _ =
    if is_answered_unnamed config p then answered_by local.Response a (accounting_answer secret p)
    else accounted config secret a s p (realm_of config p.attributes)

-- what a request gives
abbrev pub request_admission : ConfigView → List ℕ → Arrival → Side → Packet → Admission
request_admission config secret a s p =
    checked (has_few_attributes config.max_attributes p) refusal.TooManyAttributes
    (checked (is_rightly_signed secret p) refusal.BadAuthenticator
    (checked (is_rightly_sealed secret p) refusal.BadMessageAuthenticator
    (checked (has_needed_seal (seal_required config s p) p) refusal.MissingMessageAuthenticator
    (checked (has_few_hops config.max_hops p) refusal.TooManyHops
    (route_request config secret a s p a.at)))))

-- what a packet of a known sender and a code that is taken gives: a reply goes to the realm of its
-- place as it is, and is judged there
abbrev pub packet_admission : ConfigView → Arrival → Side → Packet → Place → Admission
packet_admission config a s p (place.Out realm nth) = job_of a s p realm None
packet_admission config a (side.Peer i) p _ =
    request_admission config (peer_secret config i) a (side.Peer i) p
packet_admission config a (side.Home i) p (place.Reverse realm nth) =
    request_admission config (home_secret config realm i) a (side.Home i) p
packet_admission config a s p _ = refused refusal.WrongCode

-- whether a packet is a Status-Server that is answered: one that a peer sent to where its requests are
-- taken, where the configuration has it answered (RFC 5997, section 3)
abbrev pub is_status_request : ConfigView → Place → Side → ℕ → Bool
is_status_request config (place.Auth nth) (side.Peer i) code = config.status_server && code == STATUS_SERVER
is_status_request config (place.Acct nth) (side.Peer i) code = config.status_server && code == STATUS_SERVER
is_status_request config _ _ code = false

-- whether a Status-Server has a Message-Authenticator, which it always must (RFC 5997, section 3)
abbrev pub has_seal : Packet → Bool
has_seal p = nat_lt 0 (count_of MESSAGE_AUTHENTICATOR p.attributes)

-- what a Status-Server gives: the local answer, where it has few attributes and is sealed over its own Authenticator
-- (RFC 5997, section 3)
abbrev pub status_admission : Option ℕ → List ℕ → Arrival → Packet → Admission
status_admission most secret a p =
    checked (has_few_attributes most p) refusal.TooManyAttributes
    (checked (is_well_sealed secret (p.authenticator ∷ []) p) refusal.BadMessageAuthenticator
    (checked (has_seal p) refusal.MissingMessageAuthenticator
    (answered_by (local.Status (status_code a.at)) a (status_answer a.at secret p))))

-- the same of a sender, of whom the peers alone have it answered
abbrev pub status_from : ConfigView → Arrival → Side → Packet → Admission
status_from config a (side.Peer i) p = status_admission config.max_attributes (peer_secret config i) a p
status_from config a s p = refused refusal.WrongCode

-- what a packet gives: the source first, then the code
abbrev pub sent_admission : ConfigView → Arrival → Packet → Option Side → Admission
sent_admission config a p None = refused refusal.UnknownSource
sent_admission config a p (Some s) =
    if is_status_request config a.at s p.code then status_from config a s p
    else checked (is_taken a.at s p.code) refusal.WrongCode (packet_admission config a s p a.at)

-- what is read, and what it gives
abbrev pub read_admission : ConfigView → Arrival → Result Packet Refusal → Admission
read_admission config a (Err why) = refused why
read_admission config a (Ok p) = sent_admission config a p (sender config a a.at)

-- ## Admission
-- What one arrival gives: a refusal, the first of the refusals 1 to 5, 28, 6 to 8, 24, 9, 29, 25, 26 and 10 whose cause
-- holds; a local answer: a local reject, for an Access-Request that has too many hops, names no realm that takes its
-- peer's requests or whose password can't be carried, looked at between 8 and 9, the answer to a Status-Server, or to
-- an Accounting-Request that isn't forwarded; or an event of a realm: a request from a peer or a home server, or a
-- reply from a link. It is one function of the configuration and the arrival: of no state, and of no time but the wall
-- clock's seconds that came with a reverse request.
-- Source: RFC 2865 sections 2.3 and 3, RFC 5176; order and causes ours
-- Rules out: one realm's packets judged by another's secrets; an answer that depends on what came before
-- Stands in: `roam_admission` `Admission.antt`: `admission`, `sender`, `is_taken`; `prepare`
--
-- what an arrival gives
unfoldable pub admission : ConfigView → Arrival → Admission
admission config a = read_admission config a (reading a.octets)
