-- An answer of the broker itself is for no realm, whatever codes are taken.
use Rattle.std.proofs.Common.{◌≡◌, ℕ, Bool, true, false, List, Option, Some, None, refl}
use Rattle.std.specs.Prelude.{Result, Ok, Err, if◌then◌else◌}
use Rattle.roam_wire.specs.Packet.{Packet}
use Rattle.roam_wire.specs.Reading.{reading}
use Rattle.roam_wire.specs.declared.refusal.Refusal.{Refusal}
use Rattle.roam_wire.specs.declared.refusal.Refusal.TheVariants as refusal
use Rattle.roam_conf.specs.Config.{ConfigView}
use Rattle.roam_conf.specs.declared.accounting.Accounting.{Accounting}
use Rattle.roam_conf.specs.declared.accounting.Accounting.TheVariants.{Forwarded, Answered, Dropped}
use Rattle.roam_conf.specs.declared.place.Place.{Place}
use Rattle.roam_conf.specs.declared.place.Place.TheVariants as place
use Rattle.roam_admission.specs.UserName.{realm_of}
use Rattle.roam_admission.specs.LocalAnswer.{accounting_answer}
use Rattle.roam_admission.specs.Freshness.{is_fresh}
use Rattle.roam_admission.specs.LocalReject.{is_rejected, takes_of}
use Rattle.roam_admission.specs.Shapings.{sent_length}
use Rattle.roam_admission.specs.declared.local_answer.LocalAnswer.TheVariants as local
use Rattle.roam_admission.specs.declared.local_answer.LocalAnswer.{LocalAnswer}
use Rattle.roam_admission.specs.declared.local_answer.RejectCause.{RejectCause}
use Rattle.roam_admission.specs.RejectCauses.{reject_cause}
use Rattle.roam_admission.specs.Admission.{Arrival, PlainJob, PlainOut, Admission, refused, answered_here, admitted, sender, checked, job_of, forwarded_for, rejected_for, for_named_realm, accounted, accounting_in, answered_by, by_accounting, is_answered_unnamed, route_request, request_admission, packet_admission, sent_admission, read_admission, admission, is_taken, peer_secret, home_secret, has_few_attributes, is_rightly_signed, is_rightly_sealed, has_needed_seal, has_few_hops, seal_required, has_seal, is_status_request, status_admission, status_from}
use Rattle.roam_admission.specs.declared.job.Side.{Side}
use Rattle.roam_admission.specs.declared.job.Side.TheVariants as side

-- if it is a local reject, it is for no realm
unfoldable pub RejectsForNone : Admission → Type 0
RejectsForNone (refused why) = Unit {0}
RejectsForNone (answered_here what out) = out.realm ≡ None
RejectsForNone (admitted job) = Unit {0}

refused_so : (why : Refusal) → RejectsForNone (refused why)
unfolding RejectsForNone
refused_so why = tt

admitted_so : (job : PlainJob) → RejectsForNone (admitted job)
unfolding RejectsForNone
admitted_so job = tt

rejected_so : (what : LocalAnswer) (out : PlainOut) → out.realm ≡ None → RejectsForNone (answered_here what out)
unfolding RejectsForNone
rejected_so what out is = is

checked_so : (holds : Bool) (why : Refusal) (further : Admission) → RejectsForNone further →
    RejectsForNone (checked holds why further)
checked_so true why further h = h
checked_so false why further h = refused_so why

forwarded_so : (size : ℕ) (a : Arrival) (s : Side) (p : Packet) (realm : ℕ) (names : Option ℕ) →
    RejectsForNone (forwarded_for size a s p realm names)
forwarded_so size a s p realm names = checked_so _ refusal.TooLong (job_of a s p realm names) (admitted_so _)

named_so : (config : ConfigView) (a : Arrival) (s : Side) (p : Packet) (realm : Option ℕ) →
    RejectsForNone (for_named_realm config a s p realm)
named_so config a s p None = refused_so refusal.NoRealm
named_so config a s p (Some realm) = forwarded_so (sent_length config s p realm) a s p realm (Some realm)

accounting_so : (how : Accounting) (size : ℕ) (secret : List ℕ) (a : Arrival) (s : Side) (p : Packet) (realm : ℕ) →
    RejectsForNone (by_accounting size secret a s p realm how)
accounting_so Forwarded size secret a s p realm = forwarded_so size a s p realm (Some realm)
accounting_so Answered size secret a s p realm = rejected_so _ _ refl
accounting_so Dropped size secret a s p realm = refused_so refusal.AccountingDropped

accounted_so : (config : ConfigView) (secret : List ℕ) (a : Arrival) (s : Side) (p : Packet) (realm : Option ℕ) →
    RejectsForNone (accounted config secret a s p realm)
accounted_so config secret a s p None = refused_so refusal.NoRealm
accounted_so config secret a s p (Some realm) =
    checked_so (takes_of config realm s) refusal.NotForPeer _
    (accounting_so (accounting_in config realm) (sent_length config s p realm) secret a s p realm)

reject_so : (cause : RejectCause) (secret : List ℕ) (a : Arrival) (p : Packet) →
    RejectsForNone (rejected_for cause secret a p)
reject_so cause secret a p = checked_so _ refusal.TooLong _ (rejected_so _ _ refl)

either_so : (test : Bool) (one other : Admission) → RejectsForNone one → RejectsForNone other →
    RejectsForNone (if test then one else other)
either_so true one other this that = this
either_so false one other this that = that

-- an Accounting-Request, which the broker may answer itself
unnamed_so : (config : ConfigView) (secret : List ℕ) (a : Arrival) (s : Side) (p : Packet) →
    RejectsForNone (if is_answered_unnamed config p then answered_by local.Response a (accounting_answer secret p)
    else accounted config secret a s p (realm_of config p.attributes))
unnamed_so config secret a s p =
    either_so (is_answered_unnamed config p) (answered_by local.Response a (accounting_answer secret p))
    (accounted config secret a s p (realm_of config p.attributes)) (rejected_so _ _ refl)
    (accounted_so config secret a s p (realm_of config p.attributes))

routed_so : (config : ConfigView) (secret : List ℕ) (a : Arrival) (s : Side) (p : Packet) (at : Place) →
    RejectsForNone (route_request config secret a s p at)
routed_so config secret a s p (place.Reverse realm nth) =
    checked_so (is_fresh config.fresh a.seconds p.attributes) refusal.Stale _
    (forwarded_so (sent_length config s p realm) a s p realm (realm_of config p.attributes))
routed_so config secret a s p (place.Auth nth) =
    either_so (is_rejected config s p) (rejected_for (reject_cause config s p) secret a p)
    (for_named_realm config a s p (realm_of config p.attributes))
    (reject_so (reject_cause config s p) secret a p) (named_so config a s p (realm_of config p.attributes))
routed_so config secret a s p (place.Acct nth) = unnamed_so config secret a s p
routed_so config secret a s p (place.Out realm nth) = unnamed_so config secret a s p

request_so : (config : ConfigView) (secret : List ℕ) (a : Arrival) (s : Side) (p : Packet) →
    RejectsForNone (request_admission config secret a s p)
request_so config secret a s p =
    checked_so (has_few_attributes config.max_attributes p) refusal.TooManyAttributes _
    (checked_so (is_rightly_signed secret p) refusal.BadAuthenticator _
    (checked_so (is_rightly_sealed secret p) refusal.BadMessageAuthenticator _
    (checked_so (has_needed_seal (seal_required config s p) p) refusal.MissingMessageAuthenticator _
    (checked_so (has_few_hops config.max_hops p) refusal.TooManyHops (route_request config secret a s p a.at)
    (routed_so config secret a s p a.at)))))

packet_so : (config : ConfigView) (a : Arrival) (s : Side) (p : Packet) (at : Place) →
    RejectsForNone (packet_admission config a s p at)
packet_so config a s p (place.Out realm nth) = admitted_so _
packet_so config a (side.Peer i) p (place.Auth nth) = request_so config (peer_secret config i) a (side.Peer i) p
packet_so config a (side.Peer i) p (place.Acct nth) = request_so config (peer_secret config i) a (side.Peer i) p
packet_so config a (side.Peer i) p (place.Reverse realm nth) = request_so config (peer_secret config i) a
    (side.Peer i) p
packet_so config a (side.Home i) p (place.Reverse realm nth) =
    request_so config (home_secret config realm i) a (side.Home i) p
packet_so config a (side.Home i) p (place.Auth nth) = refused_so refusal.WrongCode
packet_so config a (side.Home i) p (place.Acct nth) = refused_so refusal.WrongCode
packet_so config a (side.Link l) p (place.Auth nth) = refused_so refusal.WrongCode
packet_so config a (side.Link l) p (place.Acct nth) = refused_so refusal.WrongCode
packet_so config a (side.Link l) p (place.Reverse realm nth) = refused_so refusal.WrongCode

status_so : (most : Option ℕ) (secret : List ℕ) (a : Arrival) (p : Packet) →
    RejectsForNone (status_admission most secret a p)
status_so most secret a p =
    checked_so (has_few_attributes most p) refusal.TooManyAttributes _
    (checked_so _ refusal.BadMessageAuthenticator _
    (checked_so (has_seal p) refusal.MissingMessageAuthenticator _ (rejected_so _ _ refl)))

status_from_so : (config : ConfigView) (a : Arrival) (s : Side) (p : Packet) → RejectsForNone (status_from config a s p)
status_from_so config a (side.Peer i) p = status_so config.max_attributes (peer_secret config i) a p
status_from_so config a (side.Home i) p = refused_so refusal.WrongCode
status_from_so config a (side.Link l) p = refused_so refusal.WrongCode

sent_so : (config : ConfigView) (a : Arrival) (p : Packet) (s : Option Side) →
    RejectsForNone (sent_admission config a p s)
sent_so config a p None = refused_so refusal.UnknownSource
sent_so config a p (Some s) =
    either_so (is_status_request config a.at s p.code) (status_from config a s p) _ (status_from_so config a s p)
    (checked_so (is_taken a.at s p.code) refusal.WrongCode (packet_admission config a s p a.at)
    (packet_so config a s p a.at))

read_so : (config : ConfigView) (a : Arrival) (r : Result Packet Refusal) → RejectsForNone (read_admission config a r)
read_so config a (Err why) = refused_so why
read_so config a (Ok p) = sent_so config a p (sender config a a.at)

pub rejects_for_none : (config : ConfigView) (a : Arrival) → RejectsForNone (admission config a)
unfolding admission
rejects_for_none config a = read_so config a (reading a.octets)
