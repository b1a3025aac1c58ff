-- Which job a request gives, by where it goes.
use Rattle.std.proofs.Common.{◌≡◌, ◌↔◌, ◌≤◌, ℕ, Bool, true, false, List, [], Option, Some, None, IsSome, IsTrue, inl, inr, refl, sym, ap, subst, ◌∙◌}
use Rattle.std.specs.Prelude.{◌&&◌, not, is_some, option_and_then, if◌then◌else◌, nat_le}
use Rattle.std.proofs.lemmas.Bool.{cases_Bool}
use Rattle.roam_wire.specs.Packet.{Packet, packet_text}
use Rattle.roam_wire.specs.Attributes.{first_value}
use Rattle.roam_wire.specs.declared.attribute_type.TheConstants.{USER_NAME}
use Rattle.roam_wire.specs.declared.refusal.Refusal.{Refusal}
use Rattle.roam_wire.specs.declared.refusal.Refusal.TheVariants as refusal
use Rattle.roam_wire.specs.declared.packet_size.TheConstants.{MAX_PACKET_LENGTH}
use Rattle.roam_conf.specs.Config.{ConfigView}
use Rattle.roam_conf.specs.Lookup.{realm_named}
use Rattle.roam_conf.specs.declared.accounting.Accounting.{Accounting}
use Rattle.roam_conf.specs.declared.accounting.Accounting.TheVariants.{Forwarded, Answered, Dropped}
use Rattle.roam_conf.specs.declared.place.Place.TheVariants as place
use Rattle.roam_admission.specs.UserName.{realm_of, realm_part}
use Rattle.roam_admission.specs.LocalAnswer.{answer_length, local_reject}
use Rattle.roam_admission.specs.LocalReject.{is_rejected, takes_of, taking}
use Rattle.roam_admission.specs.Shapings.{sent_length}
use Rattle.roam_admission.specs.declared.local_answer.LocalAnswer.TheVariants as local
use Rattle.roam_admission.specs.declared.local_answer.RejectCause.{RejectCause}
use Rattle.roam_admission.specs.RejectCauses.{reject_cause}
use Rattle.roam_admission.specs.Admission.{Arrival, PlainJob, Admission, refused, admitted, checked, accounted, accounting_in, by_accounting, is_answered_unnamed, job_of, forwarded_for, answered_by, rejected_for, for_named_realm, route_request}
use Rattle.roam_admission.specs.AdmittedRequests.{FailsFirst, IsPassedOn}
use Rattle.roam_admission.specs.declared.job.Side.{Side}
use Rattle.roam_admission.specs.declared.job.Side.TheVariants as side
use Rattle.roam_admission.proofs.RequestTestLemmas.{size_by, passed_decided}

-- ---- a check, and what follows it

pub through : {P Q : Type 0} (b : Bool) (why : Refusal) (further : Admission) (job : PlainJob)
    → (IsTrue b ↔ P) → ((further ≡ admitted job) ↔ Q)
    → (checked b why further ≡ admitted job) ↔ (P × Q)
through true why further job d q = (λ h. (d.0 refl, q.0 h), λ h. q.1 h.1)
through false why further job d q = (λ h. absurd (cc h), λ h. absurd (cc (d.1 h.0)))

pub fails : {P : Type 0} (F : Refusal → Type 0) (b : Bool) (own : Refusal) (further : Admission) (why : Refusal)
    → (IsTrue b ↔ P) → ((further ≡ refused why) ↔ F why)
    → (checked b own further ≡ refused why) ↔ FailsFirst P own F why
fails F true own further why d f = (
  λ h. inr (d.0 refl, f.0 h),
  λ h. elim h [
    | inl failing ↦ absurd (failing.0 (d.0 refl))
    | inr holding ↦ f.1 holding.1
  ],
)
fails F false own further why d f = (
  λ h. inl (λ is. absurd (cc (d.1 is)), (let same : own ≡ why = cc h in sym same)),
  λ h. elim h [
    | inl failing ↦ ap refused (sym failing.1)
    | inr holding ↦ absurd (cc (d.1 holding.0))
  ],
)

-- ---- a job of a packet

-- a job is that of a packet, for a realm that is named or not
pub record IsJob (a : Arrival) (s : Side) (p : Packet) (named : Option ℕ) (job : PlainJob) : Type 0 where
  pub place_is : job.place ≡ a.at
  pub from_is : job.from ≡ a.from
  pub side_is : job.side ≡ s
  pub octets_are : job.octets ≡ packet_text p
  pub named_is : job.named ≡ named
  pub kept_is : job.keeps_session ≡ a.keeps_session

-- the job that is given
abbrev given : Arrival → Side → Packet → ℕ → Option ℕ → PlainJob
given a s p realm named = record {
  realm = realm;
  place = a.at;
  from = a.from;
  side = s;
  octets = packet_text p;
  named = named;
  keeps_session = a.keeps_session;
}

given_is : (a : Arrival) (s : Side) (p : Packet) (realm : ℕ) (named : Option ℕ) (job : PlainJob)
    → job.realm ≡ realm → IsJob a s p named job → given a s p realm named ≡ job
given_is a s p realm named job here is =
    rw (sym here, sym is.place_is, sym is.from_is, sym is.side_is, sym is.octets_are, sym is.named_is, sym is.kept_is)
    refl

pub given_by : (a : Arrival) (s : Side) (p : Packet) (realm : ℕ) (named : Option ℕ) (job : PlainJob)
    → (job_of a s p realm named ≡ admitted job) ↔ ((job.realm ≡ realm) × IsJob a s p named job)
given_by a s p realm named job = (
  λ h. (
      let same : given a s p realm named ≡ job = cc h in (
        ap (λ (j : PlainJob). j.realm) (sym same),
        record {
          place_is = ap (λ (j : PlainJob). j.place) (sym same);
          from_is = ap (λ (j : PlainJob). j.from) (sym same);
          side_is = ap (λ (j : PlainJob). j.side) (sym same);
          octets_are = ap (λ (j : PlainJob). j.octets) (sym same);
          named_is = ap (λ (j : PlainJob). j.named) (sym same);
          kept_is = ap (λ (j : PlainJob). j.keeps_session) (sym same);
        },
      )
      ),
  λ h. ap admitted (given_is a s p realm named job h.0 h.1),
)

-- ---- where a request goes

-- a size of at most 4096 octets
abbrev pub Fits : ℕ → Type 0
Fits size = size ≤ MAX_PACKET_LENGTH

pub forwarded_admitted : (size : ℕ) (a : Arrival) (s : Side) (p : Packet) (realm : ℕ) (named : Option ℕ)
    (job : PlainJob) → (forwarded_for size a s p realm named ≡ admitted job)
    ↔ (Fits size × ((job.realm ≡ realm) × IsJob a s p named job))
forwarded_admitted size a s p realm named job =
    through (nat_le size MAX_PACKET_LENGTH) refusal.TooLong (job_of a s p realm named) job
    (size_by size) (given_by a s p realm named job)

-- to the realm that is named, if one is
named_admitted : (config : ConfigView) (a : Arrival) (s : Side) (p : Packet) (o : Option ℕ) (job : PlainJob)
    → (for_named_realm config a s p o ≡ admitted job)
    ↔ ((o ≡ Some job.realm) × (Fits (sent_length config s p job.realm) × IsJob a s p o job))
named_admitted config a s p None job = (λ h. absurd (cc h), λ h. absurd (cc h.0))
named_admitted config a s p (Some realm) job =
    let Short : ℕ → Type 0 = λ r. Fits (sent_length config s p r) in
    let further = forwarded_admitted (sent_length config s p realm) a s p realm (Some realm) job in (
      λ h. (
          let all = further.0 h in
          (ap (λ (x : ℕ). Some x) (sym all.1.0), (subst Short (sym all.1.0) all.0, all.1.1))
          ),
      λ h. (
          let here : realm ≡ job.realm = cc h.0 in
          further.1 (subst Short (sym here) h.1.0, (sym here, h.1.1))
          ),
    )

-- no local answer is a job
rejected_never : (cause : RejectCause) (secret : List ℕ) (a : Arrival) (p : Packet) (job : PlainJob)
    → rejected_for cause secret a p ≡ admitted job → ⊥
rejected_never cause secret a p job h =
    elim (cases_Bool (nat_le (answer_length p) MAX_PACKET_LENGTH)) [
      | inl fits ↦
          (let k : answered_by (local.Rejected cause) a (local_reject secret p) ≡ admitted job = rw fits at h in cc k)
      | inr long ↦ (let k : refused refusal.TooLong ≡ admitted job = rw long at h in cc k)
    ]

-- an Access-Request
pub access_admitted : (nth : ℕ) (config : ConfigView) (secret : List ℕ) (a : Arrival) (s : Side) (p : Packet)
    (job : PlainJob)
    → (route_request config secret a s p (place.Auth nth) ≡ admitted job)
    ↔ (IsPassedOn config s p
    × ((realm_of config p.attributes ≡ Some job.realm)
    × (Fits (sent_length config s p job.realm) × IsJob a s p (realm_of config p.attributes) job)))
access_admitted nth config secret a s p job =
    let passed = passed_decided config s p in
    let further = named_admitted config a s p (realm_of config p.attributes) job in
    elim (cases_Bool (is_rejected config s p)) [
      | inl rejects ↦ rw rejects (
        λ h. absurd (rejected_never (reject_cause config s p) secret a p job h),
        λ h. absurd (cc (sym rejects ∙ passed.1 h.0)),
      )
      | inr passes ↦ rw passes (
        λ h. (passed.0 passes, further.0 h),
        λ h. further.1 h.1,
      )
    ]

-- ---- an Accounting-Request

-- by what becomes of the realm's accounting
by_admitted : (way : Accounting) (size : ℕ) (secret : List ℕ) (a : Arrival) (s : Side) (p : Packet) (realm : ℕ)
    (job : PlainJob)
    → (by_accounting size secret a s p realm way ≡ admitted job)
    ↔ ((way ≡ Forwarded) × (Fits size × ((job.realm ≡ realm) × IsJob a s p (Some realm) job)))
by_admitted Forwarded size secret a s p realm job =
    let goes = forwarded_admitted size a s p realm (Some realm) job in
    (λ h. (refl, goes.0 h), λ h. goes.1 h.1)
by_admitted Answered size secret a s p realm job = (λ h. absurd (cc h), λ h. absurd (cc h.0))
by_admitted Dropped size secret a s p realm job = (λ h. absurd (cc h), λ h. absurd (cc h.0))

-- to the realm that is named, if one is that takes the sender's requests
abbrev Accounts : ConfigView → Arrival → Side → Packet → Option ℕ → PlainJob → Type 0
Accounts config a s p o job =
    (o ≡ Some job.realm) × (IsTrue (takes_of config job.realm s)
    × ((accounting_in config job.realm ≡ Forwarded)
    × (Fits (sent_length config s p job.realm) × IsJob a s p o job)))

accounted_admitted : (config : ConfigView) (secret : List ℕ) (a : Arrival) (s : Side) (p : Packet) (o : Option ℕ)
    (job : PlainJob) → (accounted config secret a s p o ≡ admitted job) ↔ Accounts config a s p o job
accounted_admitted config secret a s p None job = (λ h. absurd (cc h), λ h. absurd (cc h.0))
accounted_admitted config secret a s p (Some realm) job =
    let Takes : ℕ → Type 0 = λ r. IsTrue (takes_of config r s) in
    let Goes : ℕ → Type 0 = λ r. accounting_in config r ≡ Forwarded in
    let Short : ℕ → Type 0 = λ r. Fits (sent_length config s p r) in
    let itself : Takes realm ↔ Takes realm = (λ h. h, λ h. h) in
    let size : ℕ = sent_length config s p realm in
    let further = through (takes_of config realm s) refusal.NotForPeer
    (by_accounting size secret a s p realm (accounting_in config realm)) job itself
    (by_admitted (accounting_in config realm) size secret a s p realm job) in (
      λ h. (
          let all = further.0 h in
          let here : realm ≡ job.realm = sym all.1.1.1.0 in (
            ap (λ (x : ℕ). Some x) here,
            (subst Takes here all.0, (subst Goes here all.1.0, (subst Short here all.1.1.0, all.1.1.1.1))),
          )
          ),
      λ h. (
          let here : job.realm ≡ realm = cc h.0 in
          further.1 (
            subst Takes here h.1.0,
            (subst Goes here h.1.1.0, (subst Short here h.1.1.1.0, (here, h.1.1.1.1))),
          )
          ),
    )

-- a request without a User-Name names no realm
no_name : {X Y Z : Type 0} (b : Bool) (f : X → Option Y) (g : Y → Option Z) (o : Option X) (z : Z)
    → (b && not (is_some o)) ≡ true → option_and_then g (option_and_then f o) ≡ Some z → ⊥
no_name b f g None z none is = absurd (cc is)
no_name true f g (Some x) z none is = absurd (cc none)
no_name false f g (Some x) z none is = absurd (cc none)

unnamed_asks_none : (config : ConfigView) (p : Packet) (realm : ℕ) → is_answered_unnamed config p ≡ true
    → realm_of config p.attributes ≡ Some realm → ⊥
unnamed_asks_none config p realm none is =
    no_name config.answer_unnamed realm_part (realm_named config) (first_value USER_NAME p.attributes) realm none is

pub acct_goes : (nth : ℕ) (config : ConfigView) (secret : List ℕ) (a : Arrival) (s : Side) (p : Packet) (job : PlainJob)
    → (route_request config secret a s p (place.Acct nth) ≡ admitted job)
    ↔ Accounts config a s p (realm_of config p.attributes) job
acct_goes nth config secret a s p job =
    elim (cases_Bool (is_answered_unnamed config p)) [
      | inl unnamed ↦ rw unnamed (
        λ h. absurd (cc h),
        λ h. absurd (unnamed_asks_none config p job.realm unnamed h.0),
      )
      | inr named ↦ rw named (accounted_admitted config secret a s p (realm_of config p.attributes) job)
    ]

-- ---- whether a realm takes a sender's requests

if_takes : (b : Bool) (x : ℕ) → IsSome (if b then Some x else None) → IsTrue b
if_takes true x h = refl
if_takes false x h = absurd (cc h)

takes_if : (b : Bool) (x : ℕ) → IsTrue b → IsSome (if b then Some x else None)
takes_if true x h = refl
takes_if false x h = absurd (cc h)

pub asked_takes : (config : ConfigView) (s : Side) (o : Option ℕ) (realm : ℕ) → IsSome (taking config s o)
    → o ≡ Some realm → IsTrue (takes_of config realm s)
asked_takes config s None realm some is = absurd (cc is)
asked_takes config s (Some x) realm some is =
    let same : x ≡ realm = cc is in
    subst (λ (r : ℕ). IsTrue (takes_of config r s)) same (if_takes (takes_of config x s) x some)

pub takes_asked : (config : ConfigView) (s : Side) (o : Option ℕ) (realm : ℕ) → o ≡ Some realm
    → IsTrue (takes_of config realm s) → IsSome (taking config s o)
takes_asked config s None realm is takes = absurd (cc is)
takes_asked config s (Some x) realm is takes =
    let same : realm ≡ x = cc is in
    takes_if (takes_of config x s) x (subst (λ (r : ℕ). IsTrue (takes_of config r s)) same takes)

-- a realm that may be asked is named
pub asked_named : (config : ConfigView) (s : Side) (o : Option ℕ) → IsSome (taking config s o) → IsSome o
asked_named config s None some = absurd (cc some)
asked_named config s (Some x) some = refl
