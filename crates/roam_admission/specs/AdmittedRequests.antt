-- The requests that are admitted, as facts: the tests by which `admission` chooses find no fault just where they hold
-- (RFC 2865, RFC 2866, RFC 3579, RFC 5176; the order of the checks is ours).
use Rattle.std.specs.Prelude.{◌≡◌, ◌≢◌, ◌⊎◌, ◌↔◌, ℕ, ◌+◌, ◌<◌, ◌≤◌, ◌==◌, Bool, false, List, [], ◌∷◌, length, Option, Some, None, IsTrue, IsSome, Ok, Err, if◌then◌else◌}
use Rattle.roam_wire.specs.Packet.{Packet, packet_text}
use Rattle.roam_wire.specs.Attributes.{count_of, first_value}
use Rattle.roam_wire.specs.Reading.{reading}
use Rattle.roam_wire.specs.declared.attribute_type.TheConstants.{CHAP_PASSWORD, EAP_MESSAGE, MESSAGE_AUTHENTICATOR, PROXY_STATE, USER_PASSWORD}
use Rattle.roam_wire.specs.declared.code.TheConstants.{ACCESS_REQUEST, ACCOUNTING_REQUEST, COA_REQUEST, DISCONNECT_REQUEST}
use Rattle.roam_wire.specs.declared.packet_size.TheConstants.{MAX_PACKET_LENGTH}
use Rattle.roam_wire.specs.declared.refusal.Refusal.{Refusal}
use Rattle.roam_wire.specs.declared.refusal.Refusal.TheVariants as refusal
use Rattle.roam_crypto.specs.Authenticators.{IsSignedRequest, zero_octets}
use Rattle.roam_crypto.specs.MessageAuthenticator.{IsWellSealed}
use Rattle.roam_crypto.specs.Hiding.{IsPasswordSize}
use Rattle.roam_conf.specs.Asking.{takes_in}
use Rattle.roam_conf.specs.Config.{ConfigView}
use Rattle.roam_conf.specs.declared.accounting.Accounting.{Accounting}
use Rattle.roam_conf.specs.declared.accounting.Accounting.TheVariants.{Forwarded, Answered, Dropped}
use Rattle.roam_conf.specs.declared.place.Place.{Place}
use Rattle.roam_conf.specs.declared.place.Place.TheVariants as place
use Rattle.roam_forward.specs.Forwarded.{Forwarding, forwarded}
use Rattle.roam_forward.specs.Shaped.{Shaping, shaped}
use Rattle.roam_admission.specs.Admission.{Arrival, PlainJob, accounting_in, admission, admitted, home_secret, is_answered_unnamed, is_status_request, peer_secret, refused, seal_required, sender}
use Rattle.roam_admission.specs.Freshness.{IsFresh}
use Rattle.roam_admission.specs.LocalAnswer.{answer_length}
use Rattle.roam_admission.specs.LocalReject.{asked_realm, takes_of}
use Rattle.roam_admission.specs.Shapings.{sent_length}
use Rattle.roam_admission.specs.UserName.{realm_of}
use Rattle.roam_admission.specs.declared.job.Side.{Side}
use Rattle.roam_admission.specs.declared.job.Side.TheVariants as side

-- a code is of a request that a sender sends to a place: a peer's Access-Request to where those are taken
-- (RFC 2865, section 4.1), its Accounting-Request to where those are (RFC 2866, section 4.1), and a home
-- server's Disconnect-Request or CoA-Request to where its realm takes them (RFC 5176, section 2.3)
abbrev pub IsRequestAt : Place → Side → ℕ → Type 0
IsRequestAt (place.Auth nth) (side.Peer i) code = code ≡ ACCESS_REQUEST
IsRequestAt (place.Acct nth) (side.Peer i) code = code ≡ ACCOUNTING_REQUEST
IsRequestAt (place.Reverse realm nth) (side.Home i) code =
    (code ≡ DISCONNECT_REQUEST) ⊎ (code ≡ COA_REQUEST)
IsRequestAt _ _ code = ⊥

-- where there is a limit of attributes, it has no more than that (ours)
abbrev pub HasFewAttributes : Option ℕ → Packet → Type 0
HasFewAttributes most p = (limit : ℕ) → most ≡ Some limit → length p.attributes ≤ limit

-- the secret that the sender of a request shares with the broker (RFC 2865, section 3)
abbrev pub shared_secret : ConfigView → Place → Side → List ℕ
shared_secret config at (side.Peer i) = peer_secret config i
shared_secret config (place.Reverse realm nth) (side.Home i) = home_secret config realm i
shared_secret config _ _ = []

-- a request is signed where its code has a signature: each but an Access-Request (RFC 2866, section 3;
-- RFC 5176, section 2.3)
abbrev pub IsRightlySigned : List ℕ → Packet → Type 0
IsRightlySigned secret p = p.code ≢ ACCESS_REQUEST → IsSignedRequest secret p

-- the Authenticator over which a request's Message-Authenticator stands: its own in an Access-Request
-- (RFC 3579, section 3.2), zeros in any other (RFC 5176, section 3.4; in accounting ours)
abbrev pub sealing_authenticator : Packet → List ℕ
sealing_authenticator p = if p.code == ACCESS_REQUEST then p.authenticator else zero_octets

-- an Access-Request has a Message-Authenticator where it has an EAP-Message (RFC 3579, section 3.1), and
-- where its sender is required to seal (ours)
abbrev pub HasNeededSeal : Bool → Packet → Type 0
HasNeededSeal required p =
    p.code ≡ ACCESS_REQUEST → (0 < count_of EAP_MESSAGE p.attributes) ⊎ IsTrue required
    → 0 < count_of MESSAGE_AUTHENTICATOR p.attributes

-- where there is a limit of hops, no more proxies than that forwarded it: each adds a Proxy-State (RFC
-- 2865, section 5.33; the limit is ours)
abbrev pub HasFewHops : Option ℕ → Packet → Type 0
HasFewHops most p = (limit : ℕ) → most ≡ Some limit → count_of PROXY_STATE p.attributes ≤ limit

-- the passwords of an Access-Request can be carried: at most one User-Password, none beside a
-- CHAP-Password, and of 16 to 128 octets in whole blocks (RFC 2865, sections 4.1 and 5.2)
pub record HasGoodPasswords (p : Packet) : Type 0 where
  pub one : count_of USER_PASSWORD p.attributes ≤ 1
  pub apart : 0 < count_of USER_PASSWORD p.attributes → count_of CHAP_PASSWORD p.attributes ≡ 0
  pub size : (value : List ℕ) → first_value USER_PASSWORD p.attributes ≡ Some value
      → IsPasswordSize (length value)

-- the realm that a request is for: of a home server's the realm of its place, whatever it names; of a
-- peer's the one that its User-Name names (RFC 2865, section 2.3; how a name gives a realm is ours)
abbrev pub IsForRealm : ConfigView → Place → Packet → ℕ → Type 0
IsForRealm config (place.Reverse own nth) p realm = realm ≡ own
IsForRealm config _ p realm = realm_of config p.attributes ≡ Some realm

-- the realm takes the requests of the sender: of a peer where it may ask (ours); of a home server always
abbrev pub MayAsk : ConfigView → Side → ℕ → Type 0
MayAsk config (side.Peer i) realm = IsTrue (takes_in config realm i)
MayAsk config s realm = Unit {0}

-- the realm's accounting is forwarded (ours)
abbrev pub IsForwarded : ConfigView → ℕ → Type 0
IsForwarded config realm = accounting_in config realm ≡ Forwarded

-- ## A right request
-- A request that a realm is given, by the side that sent it, a peer or a home server of the realm. Its code belongs
-- to its place and its sender: a peer's Access-Request where those are taken, its Accounting-Request where those
-- are, a home server's Disconnect-Request or CoA-Request at its realm's own place. Where there is a limit of
-- attributes, it has at most so many. It is signed with the secret that the two share where its code has a
-- signature, which is each but an Access-Request. It has no Message-Authenticator, or just one, and that is over
-- its own Authenticator in an Access-Request and over sixteen zero octets in any other. An Access-Request has one
-- where it has an EAP-Message, and where its peer is required to seal. Where there is a limit of hops, it has at
-- most so many Proxy-States. An Access-Request's passwords can be carried: at most one User-Password, of 16 to 128
-- octets in whole blocks, and none beside a CHAP-Password. It is for a realm: a home server's for the realm of its
-- place, a peer's for the one that its User-Name names, which takes that peer's requests and, of an
-- Accounting-Request, has its accounting forwarded. A home server's isn't stale, where the wall clock's seconds
-- came with it. The packet that is forwarded for it has at most 4096 octets: of a peer's request as the peer and
-- the realm have it shaped, of a home server's as it came. An arrival gives a realm a request just where it is one;
-- what isn't is refused for the first of these parts that fails, in this order: code, attributes, signature,
-- Message-Authenticator, that there is one where it must be, hops, realm, that it is fresh, that it may be asked,
-- its accounting, size. (An Access-Request that fails in its realm, passwords or hops is answered by a local
-- reject, whose size is then the last part; an Accounting-Request without a name, or for a realm that has these
-- answered, may be answered by the broker, and isn't refused then.)
-- Source: RFC 2865 sections 3, 4.1, 5.2 and 5.33, RFC 2866 sections 3 and 4.1, RFC 3579 sections 3.1 and 3.2,
-- RFC 5176 sections 2.3 and 3.4; the order, the limit of hops, the seal that is required and that a seal over
-- zeros is wanted in accounting: ours
-- Rules out: a request of another code or sender let in; one with a wrong signature or seal; an unsealed one
-- where a seal is required; a refusal that names a later fault than the first
-- Stands in: `roam_admission` `AdmittedRequests.antt`: `IsRightRequest`, `IsJobOf`, `FailsFor`; law
-- `admitted_requests`
--
-- a request that a realm is given
pub record IsRightRequest (config : ConfigView) (seconds : Option ℕ) (at : Place) (s : Side) (p : Packet) (realm : ℕ)
    : Type 0 where
  pub code : IsRequestAt at s p.code
  pub attributes : HasFewAttributes config.max_attributes p
  pub signed : IsRightlySigned (shared_secret config at s) p
  pub well_sealed :
      IsWellSealed (shared_secret config at s) (sealing_authenticator p ∷ []) p
  pub needed_seal : HasNeededSeal (seal_required config s p) p
  pub hops : HasFewHops config.max_hops p
  pub passwords : p.code ≡ ACCESS_REQUEST → HasGoodPasswords p
  pub realm_is : IsForRealm config at p realm
  pub fresh : IsFresh config seconds at p
  pub asks : MayAsk config s realm
  pub accounting : p.code ≡ ACCOUNTING_REQUEST → IsForwarded config realm
  pub size : sent_length config s p realm ≤ MAX_PACKET_LENGTH

-- a job is a packet's: from the place, the source and the sender of the arrival, with the packet's octets
-- without padding, the realm that its User-Name names, and whether the arrival's session is kept
pub record IsJobOf (config : ConfigView) (a : Arrival) (p : Packet) (job : PlainJob) : Type 0 where
  pub place : job.place ≡ a.at
  pub from : job.from ≡ a.from
  pub sender : sender config a a.at ≡ Some job.side
  pub octets : job.octets ≡ packet_text p
  pub named : job.named ≡ realm_of config p.attributes
  pub keeps_session : job.keeps_session ≡ a.keeps_session

-- a job came from a peer or a home server, so it is a request; what a link sends is a reply
abbrev pub IsOfRequest : Side → Type 0
IsOfRequest (side.Peer i) = Unit {0}
IsOfRequest (side.Link l) = ⊥
IsOfRequest (side.Home i) = Unit {0}

-- an arrival gives a job of a request just where it reads as a packet that is a right request of the job's
-- sender at its place for the job's realm, and the job is that packet's
abbrev pub AdmittedIsRight : Type 0
AdmittedIsRight = (config : ConfigView) (a : Arrival) (p : Packet) (job : PlainJob) →
    reading a.octets ≡ Ok p → IsOfRequest job.side →
    (admission config a ≡ admitted job)
    ↔ (IsJobOf config a p job × IsRightRequest config a.seconds a.at job.side p job.realm)

-- a refusal is a part's own where that part doesn't hold, and what follows gives it where it does
abbrev pub FailsFirst : Type 0 → Refusal → (Refusal → Type 0) → Refusal → Type 0
FailsFirst part own further why = ((part → ⊥) × (why ≡ own)) ⊎ (part × further why)

-- nothing is left to refuse for
abbrev pub NothingFails : Refusal → Type 0
NothingFails why = ⊥

-- an Access-Request that isn't answered by a local reject: it names a realm that takes the sender's requests, its
-- passwords can be carried, and it has few hops (ours)
pub record IsPassedOn (config : ConfigView) (s : Side) (p : Packet) : Type 0 where
  pub names : IsSome (asked_realm config s p.attributes)
  pub passwords : HasGoodPasswords p
  pub hops : HasFewHops config.max_hops p

-- why an Accounting-Request for a realm isn't forwarded, by what becomes of the realm's accounting: it is answered, and
-- not refused; it is dropped; or it is too long
abbrev pub FailsToAccount : Accounting → ℕ → Refusal → Type 0
FailsToAccount Forwarded size why = FailsFirst (size ≤ MAX_PACKET_LENGTH) refusal.TooLong NothingFails why
FailsToAccount Answered size why = ⊥
FailsToAccount Dropped size why = why ≡ refusal.AccountingDropped

-- why an Accounting-Request isn't forwarded, by the realm that it names: there is none, it may not be asked, or the
-- above
abbrev pub FailsInRealm : ConfigView → Side → Packet → Option ℕ → Refusal → Type 0
FailsInRealm config s p None why = why ≡ refusal.NoRealm
FailsInRealm config s p (Some realm) why =
    FailsFirst (IsTrue (takes_of config realm s)) refusal.NotForPeer
    (FailsToAccount (accounting_in config realm) (sent_length config s p realm)) why

-- the same of a request that isn't answered since it has no name
pub record FailsNamed (config : ConfigView) (s : Side) (p : Packet) (why : Refusal) : Type 0 where
  pub unanswered : is_answered_unnamed config p ≡ false
  pub fails : FailsInRealm config s p (realm_of config p.attributes) why

-- why a request isn't forwarded for its size to the realm that it names; one that names none is never asked about
abbrev pub FailsForSize : ConfigView → Side → Packet → Option ℕ → Refusal → Type 0
FailsForSize config s p None why = ⊥
FailsForSize config s p (Some realm) why =
    FailsFirst (sent_length config s p realm ≤ MAX_PACKET_LENGTH) refusal.TooLong NothingFails why

-- why a request isn't forwarded that is signed and sealed as it must be: its hops, its realm, its time, its size,
-- in this order. An Access-Request fails for the size alone, of its local reject where it gets one
abbrev pub FailsToGo : ConfigView → Option ℕ → Side → Packet → Place → Refusal → Type 0
FailsToGo config seconds s p (place.Auth nth) why =
    (IsPassedOn config s p × FailsForSize config s p (realm_of config p.attributes) why)
    ⊎ ((IsPassedOn config s p → ⊥)
    × FailsFirst (answer_length p ≤ MAX_PACKET_LENGTH) refusal.TooLong NothingFails why)
FailsToGo config seconds s p (place.Reverse own nth) why =
    FailsFirst (HasFewHops config.max_hops p) refusal.TooManyHops
    (FailsFirst (IsFresh config seconds (place.Reverse own nth) p) refusal.Stale
    (FailsFirst (sent_length config s p own ≤ MAX_PACKET_LENGTH) refusal.TooLong NothingFails)) why
FailsToGo config seconds s p _ why =
    FailsFirst (HasFewHops config.max_hops p) refusal.TooManyHops (FailsNamed config s p) why

-- why a request of a sender isn't admitted: the first part that fails, of its attributes, its signature, its
-- Message-Authenticator, that it has one where it must, and what is wanted to forward it (the order is ours)
abbrev pub FailsFor : ConfigView → Option ℕ → Place → Side → Packet → Refusal → Type 0
FailsFor config seconds at s p why =
    FailsFirst (HasFewAttributes config.max_attributes p) refusal.TooManyAttributes
    (FailsFirst (IsRightlySigned (shared_secret config at s) p) refusal.BadAuthenticator
    (FailsFirst (IsWellSealed (shared_secret config at s) (sealing_authenticator p ∷ []) p)
    refusal.BadMessageAuthenticator
    (FailsFirst (HasNeededSeal (seal_required config s p) p) refusal.MissingMessageAuthenticator
    (FailsToGo config seconds s p at)))) why

-- a request is refused just for the first part that fails
abbrev pub RefusedFailsFirst : Type 0
RefusedFailsFirst = (config : ConfigView) (a : Arrival) (p : Packet) (s : Side) (why : Refusal) →
    reading a.octets ≡ Ok p → sender config a a.at ≡ Some s → IsRequestAt a.at s p.code →
    (admission config a ≡ refused why) ↔ FailsFor config a.seconds a.at s p why

-- what is looked at before: an arrival that reads as no packet is refused for what is wrong with it
abbrev pub UnreadIsRefused : Type 0
UnreadIsRefused = (config : ConfigView) (a : Arrival) (why : Refusal) →
    reading a.octets ≡ Err why → admission config a ≡ refused why

-- a packet of a source that shares no secret with the broker there is refused for that
abbrev pub UnknownIsRefused : Type 0
UnknownIsRefused = (config : ConfigView) (a : Arrival) (p : Packet) →
    reading a.octets ≡ Ok p → sender config a a.at ≡ None → admission config a ≡ refused refusal.UnknownSource

-- and a packet of a peer or a home server for its code, where that isn't of a request there, nor of a
-- Status-Server that is answered
abbrev pub OtherCodeIsRefused : Type 0
OtherCodeIsRefused = (config : ConfigView) (a : Arrival) (p : Packet) (s : Side) →
    reading a.octets ≡ Ok p → sender config a a.at ≡ Some s → IsOfRequest s →
    (IsRequestAt a.at s p.code → ⊥) → is_status_request config a.at s p.code ≡ false →
    admission config a ≡ refused refusal.WrongCode

-- what is forwarded of an admitted request has at most one Proxy-State more than the request, the ticket: so where
-- there is a limit of hops, at most one more than that, however the request is shaped (RFC 2865, section 5.33; the
-- limit is ours)
abbrev pub ForwardedHasFewHops : Type 0
ForwardedHasFewHops = (config : ConfigView) (a : Arrival) (p : Packet) (job : PlainJob) (f : Forwarding)
    (s : Shaping) (limit : ℕ) → reading a.octets ≡ Ok p → IsOfRequest job.side → admission config a ≡ admitted job →
    config.max_hops ≡ Some limit →
    (count_of PROXY_STATE (forwarded f p).attributes ≤ limit + 1)
    × (count_of PROXY_STATE (forwarded f (shaped s p)).attributes ≤ limit + 1)
