-- What is admitted of a request, from its signature on.
use Rattle.std.proofs.Common.{◌≡◌, ◌<◌, ◌≤◌, ℕ, Bool, true, false, List, [], ◌∷◌, length, Option, Some, None, inl, inr, refl, arith}
use Rattle.std.specs.Prelude.{◌==◌, if◌then◌else◌, nat_le}
use Rattle.std.specs.List.{AllByRecursion}
use Rattle.std.proofs.lemmas.Bool.Decides.{nat_tests}
use Rattle.roam_wire.specs.Packet.{Packet, packet_text}
use Rattle.roam_wire.specs.declared.code.TheConstants.{ACCESS_REQUEST}
use Rattle.roam_wire.specs.declared.refusal.Refusal.{Refusal}
use Rattle.roam_wire.specs.declared.refusal.Refusal.TheVariants as refusal
use Rattle.roam_crypto.specs.Authenticators.{zero_octets}
use Rattle.roam_crypto.specs.MessageAuthenticator.{HasAtMostOneMessageAuthenticator, IsWellSealed}
use Rattle.roam_crypto.proofs.DecidingLemmas.{well_sealed_decided}
use Rattle.roam_conf.specs.Config.{ConfigView}
use Rattle.roam_conf.specs.declared.accounting.Accounting.{Accounting}
use Rattle.roam_conf.specs.declared.accounting.Accounting.TheVariants.{Forwarded, Answered, Dropped}
use Rattle.roam_conf.specs.declared.place.Place.TheVariants as place
use Rattle.roam_forward.specs.Forwarded.{HasPasswordBlocks}
use Rattle.roam_admission.specs.UserName.{realm_of}
use Rattle.roam_admission.specs.LocalAnswer.{accounting_answer, answer_length, local_reject}
use Rattle.roam_admission.specs.LocalReject.{takes_of}
use Rattle.roam_admission.specs.declared.local_answer.LocalAnswer.TheVariants as local
use Rattle.roam_admission.specs.declared.local_answer.LocalAnswer.{LocalAnswer}
use Rattle.roam_admission.specs.declared.local_answer.RejectCause.{RejectCause}
use Rattle.roam_admission.specs.Admission.{Arrival, PlainJob, PlainOut, Admission, refused, answered_here, admitted, sender, checked, accounted, accounting_in, by_accounting, job_of, forwarded_for, answered_by, rejected_for, for_named_realm, route_request, request_admission, is_taken, has_few_attributes, is_rightly_signed, is_rightly_sealed, has_needed_seal, has_few_hops, seal_required}
use Rattle.roam_admission.specs.Events.{arrival_of, IsConfigured, IsForwardable, IsNamed}
use Rattle.roam_admission.specs.Shapings.{sent_length}
use Rattle.roam_admission.specs.declared.job.Side.{Side}
use Rattle.roam_admission.specs.declared.job.Side.TheVariants as side
use Rattle.roam_admission.proofs.SenderLemmas.{realm_of_within}

-- the arrival of a packet without padding, and without the wall clock's seconds
abbrev pub without_padding : Arrival → Packet → Arrival
without_padding a p =
    record {
      at = a.at;
      from = a.from;
      octets = packet_text p;
      seconds = None;
      keeps_session = a.keeps_session;
    }

-- ---- what is admitted of a packet

-- a job has the place and the source of the arrival and the packet's octets; its code is taken;
-- its realm and its sender are configured; and what is a request can be forwarded
pub record IsAdmitted (config : ConfigView) (a : Arrival) (p : Packet) (job : PlainJob) : Type 0 where
  pub arrival : arrival_of job ≡ without_padding a p
  pub code : is_taken job.place job.side p.code ≡ true
  pub realm : job.realm < length config.realms
  pub sender : IsConfigured config job.realm job.side
  pub forwardable : IsForwardable config job.realm job.side p
  pub names : IsNamed config job.side p job.named

unfoldable pub Admits : ConfigView → Arrival → Packet → Admission → Type 0
Admits config a p (refused why) = Unit {0}
Admits config a p (answered_here what out) = Unit {0}
Admits config a p (admitted job) = IsAdmitted config a p job

pub refused_admits : (config : ConfigView) (a : Arrival) (p : Packet) (why : Refusal)
    → Admits config a p (refused why)
unfolding Admits
refused_admits config a p why = tt

pub rejected_admits : (config : ConfigView) (a : Arrival) (p : Packet) (what : LocalAnswer) (out : PlainOut)
    → Admits config a p (answered_here what out)
unfolding Admits
rejected_admits config a p what out = tt

pub checked_admits : (config : ConfigView) (a : Arrival) (p : Packet) (holds : Bool) (why : Refusal)
    (further : Admission)
    → (holds ≡ true → Admits config a p further) → Admits config a p (checked holds why further)
checked_admits config a p true why further h = h refl
checked_admits config a p false why further h = refused_admits config a p why

-- a packet that a realm is given: its code is taken, and the realm and its sender are configured
pub record IsFor (config : ConfigView) (a : Arrival) (s : Side) (p : Packet) (realm : ℕ) : Type 0 where
  pub code : is_taken a.at s p.code ≡ true
  pub within : realm < length config.realms
  pub sender : IsConfigured config realm s

pub given_admits : (config : ConfigView) (a : Arrival) (s : Side) (p : Packet) (realm : ℕ)
    (names : Option ℕ)
    → IsFor config a s p realm → IsForwardable config realm s p → IsNamed config s p names
    → Admits config a p (job_of a s p realm names)
unfolding Admits
given_admits config a s p realm names h forwardable named_so = record {
  arrival = refl;
  code = h.code;
  realm = h.within;
  sender = h.sender;
  forwardable = forwardable;
  names = named_so;
}

-- a request that can be sealed and whose passwords can be hidden anew
pub record IsSealable (p : Packet) : Type 0 where
  pub seal : HasAtMostOneMessageAuthenticator p
  pub passwords : p.code ≡ ACCESS_REQUEST → AllByRecursion HasPasswordBlocks p.attributes

forwardable_from : (config : ConfigView) (realm : ℕ) (s : Side) (p : Packet) → IsSealable p
    → sent_length config s p realm ≤ 4096 → IsForwardable config realm s p
forwardable_from config realm (side.Peer i) p h short =
    record { message_authenticator = h.seal; passwords = h.passwords; size = short }
forwardable_from config realm (side.Link l) p h short = tt
forwardable_from config realm (side.Home i) p h short =
    record { message_authenticator = h.seal; passwords = h.passwords; size = short }

short_by : (size : ℕ) → nat_le size 4096 ≡ true → size ≤ 4096
short_by size short = grind (arith, nat_tests, short)

pub forwarded_admits : (config : ConfigView) (a : Arrival) (s : Side) (p : Packet) (realm : ℕ)
    (names : Option ℕ)
    → IsFor config a s p realm → IsSealable p → IsNamed config s p names
    → Admits config a p (forwarded_for (sent_length config s p realm) a s p realm names)
forwarded_admits config a s p realm names h sealable named_so =
    let size : ℕ = sent_length config s p realm in
    checked_admits config a p (nat_le size 4096) refusal.TooLong (job_of a s p realm names)
    (λ short. given_admits config a s p realm names h
    (forwardable_from config realm s p sealable (short_by size short)) named_so)

-- a request of a peer may go to each configured realm
unfoldable pub IsFromPeer : ConfigView → Arrival → ℕ → Packet → Type 0
IsFromPeer config a i p =
    (realm : ℕ) → realm < length config.realms → IsFor config a (side.Peer i) p realm

named_admits : (config : ConfigView) (a : Arrival) (i : ℕ) (p : Packet) (realm : Option ℕ)
    → realm ≡ realm_of config p.attributes
    → ((x : ℕ) → realm ≡ Some x → IsFor config a (side.Peer i) p x) → IsSealable p
    → Admits config a p (for_named_realm config a (side.Peer i) p realm)
named_admits config a i p None is h sealable = refused_admits config a p refusal.NoRealm
named_admits config a i p (Some realm) is h sealable =
    forwarded_admits config a (side.Peer i) p realm (Some realm) (h realm refl) sealable is

-- where it names one
pub own_realm_admits : (config : ConfigView) (a : Arrival) (i : ℕ) (p : Packet)
    → IsFromPeer config a i p → IsSealable p
    → Admits config a p (for_named_realm config a (side.Peer i) p (realm_of config p.attributes))
unfolding IsFromPeer
own_realm_admits config a i p h sealable =
    named_admits config a i p (realm_of config p.attributes) refl
    (λ x is. h x (realm_of_within config p.attributes x is)) sealable

-- a local reject, or an Access-Request whose passwords can be hidden anew
pub either_admits : (config : ConfigView) (a : Arrival) (p : Packet) (rejects : Bool)
    (reject further : Admission)
    → Admits config a p reject → (rejects ≡ false → Admits config a p further)
    → Admits config a p (if rejects then reject else further)
either_admits config a p true reject further first second = first
either_admits config a p false reject further first second = second refl

pub reject_admits : (config : ConfigView) (cause : RejectCause) (secret : List ℕ) (a : Arrival) (p : Packet)
    → Admits config a p (rejected_for cause secret a p)
reject_admits config cause secret a p =
    let bytes : List ℕ = packet_text (local_reject secret p) in
    let out : PlainOut = record { realm = None; from = a.at; to = a.from; bytes = bytes } in
    checked_admits config a p (nat_le (answer_length p) 4096) refusal.TooLong
    (answered_here (local.Rejected cause) out) (λ _. rejected_admits config a p (local.Rejected cause) out)

-- an answer of the broker itself
pub answer_admits : (config : ConfigView) (secret : List ℕ) (a : Arrival) (p : Packet)
    → Admits config a p (answered_by local.Response a (accounting_answer secret p))
answer_admits config secret a p =
    let bytes : List ℕ = packet_text (accounting_answer secret p) in
    rejected_admits config a p local.Response (record { realm = None; from = a.at; to = a.from; bytes = bytes })

-- an Accounting-Request, by what becomes of the realm's accounting
accounting_admits : (config : ConfigView) (secret : List ℕ) (a : Arrival) (i : ℕ) (p : Packet) (realm : ℕ)
    (way : Accounting) → IsFor config a (side.Peer i) p realm → IsSealable p
    → IsNamed config (side.Peer i) p (Some realm)
    → Admits config a p (by_accounting (sent_length config (side.Peer i) p realm) secret a (side.Peer i) p realm way)
accounting_admits config secret a i p realm Forwarded h sealable named_so =
    forwarded_admits config a (side.Peer i) p realm (Some realm) h sealable named_so
accounting_admits config secret a i p realm Answered h sealable named_so = answer_admits config secret a p
accounting_admits config secret a i p realm Dropped h sealable named_so =
    refused_admits config a p refusal.AccountingDropped

pub accounted_admits : (config : ConfigView) (secret : List ℕ) (a : Arrival) (i : ℕ) (p : Packet) (realm : Option ℕ)
    → realm ≡ realm_of config p.attributes
    → ((x : ℕ) → realm ≡ Some x → IsFor config a (side.Peer i) p x) → IsSealable p
    → Admits config a p (accounted config secret a (side.Peer i) p realm)
accounted_admits config secret a i p None is h sealable = refused_admits config a p refusal.NoRealm
accounted_admits config secret a i p (Some realm) is h sealable =
    let way : Accounting = accounting_in config realm in
    checked_admits config a p (takes_of config realm (side.Peer i)) refusal.NotForPeer
    (by_accounting (sent_length config (side.Peer i) p realm) secret a (side.Peer i) p realm way)
    (λ _. accounting_admits config secret a i p realm way (h realm refl) sealable is)

-- what is well sealed has at most one Message-Authenticator
pub sealed_once : (secret : List ℕ) (p : Packet) → is_rightly_sealed secret p ≡ true
    → HasAtMostOneMessageAuthenticator p
sealed_once secret p h =
    let own : List ℕ = if p.code == ACCESS_REQUEST then p.authenticator else zero_octets in
    let sealed : IsWellSealed secret (own ∷ []) p = (well_sealed_decided secret (own ∷ []) p).0 h in
    elim sealed [ inl none ↦ inl none | inr one ↦ inr one.0 ]

-- a request whose signature and seal are right
pub request_admits : (config : ConfigView) (secret : List ℕ) (a : Arrival) (s : Side) (p : Packet)
    → (HasAtMostOneMessageAuthenticator p → Admits config a p (route_request config secret a s p a.at))
    → Admits config a p (request_admission config secret a s p)
request_admits config secret a s p h =
    let has_needed : Bool = has_needed_seal (seal_required config s p) p in
    let few : Bool = has_few_hops config.max_hops p in
    let last : Admission = route_request config secret a s p a.at in
    let fourth : Admission = checked few refusal.TooManyHops last in
    let third : Admission = checked has_needed refusal.MissingMessageAuthenticator fourth in
    let second : Admission = checked (is_rightly_sealed secret p) refusal.BadMessageAuthenticator third in
    let first : Admission = checked (is_rightly_signed secret p) refusal.BadAuthenticator second in
    checked_admits config a p (has_few_attributes config.max_attributes p) refusal.TooManyAttributes first (λ _.
    checked_admits config a p (is_rightly_signed secret p) refusal.BadAuthenticator second (λ _.
    checked_admits config a p (is_rightly_sealed secret p) refusal.BadMessageAuthenticator third (λ well.
    checked_admits config a p has_needed refusal.MissingMessageAuthenticator fourth (λ _.
    checked_admits config a p few refusal.TooManyHops last (λ _.
    h (sealed_once secret p well))))))
