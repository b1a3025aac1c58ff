-- A request is refused for the first part that fails.
use Rattle.std.proofs.Common.{◌≡◌, ◌≢◌, ◌↔◌, ◌≤◌, ℕ, Bool, List, [], ◌∷◌, Option, Some, None, IsSome, IsTrue, inl, inr, refl, sym, ap, subst, ◌∙◌, arith}
use Rattle.std.specs.Prelude.{nat_le}
use Rattle.std.proofs.lemmas.Bool.{cases_Bool}
use Rattle.roam_wire.specs.Packet.{Packet}
use Rattle.roam_wire.specs.declared.code.TheConstants.{ACCESS_REQUEST}
use Rattle.roam_wire.specs.declared.refusal.Refusal.{Refusal}
use Rattle.roam_wire.specs.declared.refusal.Refusal.TheVariants as refusal
use Rattle.roam_wire.specs.declared.packet_size.TheConstants.{MAX_PACKET_LENGTH}
use Rattle.roam_crypto.specs.MessageAuthenticator.{IsWellSealed}
use Rattle.roam_conf.specs.Config.{ConfigView}
use Rattle.roam_conf.specs.declared.accounting.Accounting.{Accounting}
use Rattle.roam_conf.specs.declared.accounting.Accounting.TheVariants.{Forwarded, Answered, Dropped}
use Rattle.roam_conf.specs.declared.place.Link.{Link}
use Rattle.roam_conf.specs.declared.place.Place.{Place}
use Rattle.roam_conf.specs.declared.place.Place.TheVariants as place
use Rattle.roam_admission.specs.UserName.{realm_of}
use Rattle.roam_admission.specs.Freshness.{IsFresh, is_fresh}
use Rattle.roam_admission.specs.LocalAnswer.{answer_length, local_reject}
use Rattle.roam_admission.specs.LocalReject.{is_rejected, takes_of}
use Rattle.roam_admission.specs.Shapings.{sent_length}
use Rattle.roam_admission.specs.declared.local_answer.LocalAnswer.TheVariants as local
use Rattle.roam_admission.specs.declared.local_answer.RejectCause.{RejectCause}
use Rattle.roam_admission.specs.RejectCauses.{reject_cause}
use Rattle.roam_admission.specs.Admission.{Arrival, Admission, refused, checked, accounted, accounting_in, by_accounting, is_answered_unnamed, job_of, forwarded_for, answered_by, rejected_for, for_named_realm, route_request, request_admission, packet_admission, sent_admission, admission, has_few_attributes, is_rightly_signed, is_rightly_sealed, has_needed_seal, has_few_hops, seal_required, peer_secret, home_secret}
use Rattle.roam_admission.specs.AdmittedRequests.{IsRequestAt, HasFewAttributes, IsRightlySigned, sealing_authenticator, HasNeededSeal, FailsFirst, NothingFails, IsPassedOn, FailsToAccount, FailsForSize, FailsInRealm, FailsNamed, FailsToGo, FailsFor, RefusedFailsFirst}
use Rattle.roam_admission.specs.declared.job.Side.{Side}
use Rattle.roam_admission.specs.declared.job.Side.TheVariants as side
use Rattle.roam_admission.proofs.FreshnessLemmas.{fresh_decided}
use Rattle.roam_admission.proofs.RequestTestLemmas.{signed_decided, sealed_decided, needed_decided, size_by, passed_decided, attributes_decided}
use Rattle.roam_admission.proofs.RoutedLemmas.{asked_named, fails, Fits}
use Rattle.roam_admission.proofs.RightLemmas.{other_hops, access_hops, front_checked, reverse_other}
use Rattle.roam_admission.proofs.AdmittedLemmas.{judged_is, as_sent}

-- ---- what is refused

-- the size of the forwarded packet
size_fails : (size : ℕ) (a : Arrival) (s : Side) (p : Packet) (realm : ℕ) (named : Option ℕ) (why : Refusal)
    → (forwarded_for size a s p realm named ≡ refused why) ↔ FailsFirst (Fits size) refusal.TooLong NothingFails why
size_fails size a s p realm named why =
    fails NothingFails (nat_le size MAX_PACKET_LENGTH) refusal.TooLong
    (job_of a s p realm named) why (size_by size) (λ h. absurd (cc h), λ h. absurd h)

-- what becomes of the realm's accounting
accounting_fails : (way : Accounting) (size : ℕ) (secret : List ℕ) (a : Arrival) (s : Side) (p : Packet) (realm : ℕ)
    (why : Refusal) → (by_accounting size secret a s p realm way ≡ refused why) ↔ FailsToAccount way size why
accounting_fails Forwarded size secret a s p realm why = size_fails size a s p realm (Some realm) why
accounting_fails Answered size secret a s p realm why = (λ h. absurd (cc h), λ h. absurd h)
accounting_fails Dropped size secret a s p realm why = (
  λ h. (let same : refusal.AccountingDropped ≡ why = cc h in sym same),
  λ h. ap refused (sym h),
)

-- the realm, whether it may be asked, then that
accounted_fails : (config : ConfigView) (secret : List ℕ) (a : Arrival) (s : Side) (p : Packet) (o : Option ℕ)
    (why : Refusal) → (accounted config secret a s p o ≡ refused why) ↔ FailsInRealm config s p o why
accounted_fails config secret a s p None why = (
  λ h. (let same : refusal.NoRealm ≡ why = cc h in sym same),
  λ h. ap refused (sym h),
)
accounted_fails config secret a s p (Some realm) why =
    let way : Accounting = accounting_in config realm in
    let itself : IsTrue (takes_of config realm s) ↔ IsTrue (takes_of config realm s) = (λ h. h, λ h. h) in
    let size : ℕ = sent_length config s p realm in
    fails (FailsToAccount way size) (takes_of config realm s) refusal.NotForPeer
    (by_accounting size secret a s p realm way) why itself (accounting_fails way size secret a s p realm why)

-- an Accounting-Request that is answered since it has no name isn't refused
acct_fails : (nth : ℕ) (config : ConfigView) (secret : List ℕ) (a : Arrival) (s : Side) (p : Packet) (why : Refusal)
    → (route_request config secret a s p (place.Acct nth) ≡ refused why) ↔ FailsNamed config s p why
acct_fails nth config secret a s p why =
    let further = accounted_fails config secret a s p (realm_of config p.attributes) why in
    elim (cases_Bool (is_answered_unnamed config p)) [
      | inl unnamed ↦ rw unnamed (
        λ h. absurd (cc h),
        λ h. absurd (cc (sym unnamed ∙ h.unanswered)),
      )
      | inr named ↦ rw named (
        λ h. record { unanswered = named; fails = further.0 h },
        λ h. further.1 h.fails,
      )
    ]

-- where one is named, the size alone
named_fails : (config : ConfigView) (a : Arrival) (s : Side) (p : Packet) (o : Option ℕ) (why : Refusal) → IsSome o
    → (for_named_realm config a s p o ≡ refused why) ↔ FailsForSize config s p o why
named_fails config a s p None why there = absurd (cc there)
named_fails config a s p (Some realm) why there =
    size_fails (sent_length config s p realm) a s p realm (Some realm) why

-- the size of a local reject
answer_fails : (cause : RejectCause) (secret : List ℕ) (a : Arrival) (p : Packet) (why : Refusal)
    → (rejected_for cause secret a p ≡ refused why)
    ↔ FailsFirst (answer_length p ≤ MAX_PACKET_LENGTH) refusal.TooLong NothingFails why
answer_fails cause secret a p why =
    fails NothingFails (nat_le (answer_length p) MAX_PACKET_LENGTH) refusal.TooLong
    (answered_by (local.Rejected cause) a (local_reject secret p)) why (size_by (answer_length p))
    (λ h. absurd (cc h), λ h. absurd h)

-- an Access-Request
access_fails : (nth : ℕ) (config : ConfigView) (secret : List ℕ) (a : Arrival) (s : Side) (p : Packet) (why : Refusal)
    → (route_request config secret a s p (place.Auth nth)
    ≡ refused why) ↔ FailsToGo config a.seconds s p (place.Auth nth) why
access_fails nth config secret a s p why =
    let passed = passed_decided config s p in
    elim (cases_Bool (is_rejected config s p)) [
      | inl rejects ↦ (
          let size = answer_fails (reject_cause config s p) secret a p why in
          let never : IsPassedOn config s p → ⊥ = λ h. absurd (cc (sym rejects ∙ passed.1 h)) in
          rw rejects (
            λ h. inr (never, size.0 h),
            λ h. elim h [
              | inl goes ↦ absurd (never goes.0)
              | inr answered ↦ size.1 answered.1
            ],
          )
          )
      | inr passes ↦ (
          let on : IsPassedOn config s p = passed.0 passes in
          let named = asked_named config s (realm_of config p.attributes) on.names in
          let size = named_fails config a s p (realm_of config p.attributes) why named in
          rw passes (
            λ h. inl (on, size.0 h),
            λ h. elim h [
              | inl goes ↦ size.1 goes.1
              | inr answered ↦ absurd (answered.0 on)
            ],
          )
          )
    ]

-- a request, from its signature on
front_fails : (F : Refusal → Type 0) (config : ConfigView) (secret : List ℕ) (s : Side) (p : Packet)
    (further : Admission) (why : Refusal) → ((further ≡ refused why) ↔ F why)
    → (front_checked config secret s p further ≡ refused why)
    ↔ FailsFirst (HasFewAttributes config.max_attributes p) refusal.TooManyAttributes
    (FailsFirst (IsRightlySigned secret p) refusal.BadAuthenticator
    (FailsFirst (IsWellSealed secret (sealing_authenticator p ∷ []) p) refusal.BadMessageAuthenticator
    (FailsFirst (HasNeededSeal (seal_required config s p) p) refusal.MissingMessageAuthenticator F))) why
front_fails F config secret s p further why f =
    let needed : Bool = has_needed_seal (seal_required config s p) p in
    let third = fails F needed refusal.MissingMessageAuthenticator further why
    (needed_decided (seal_required config s p) p) f in
    let second = fails
    (FailsFirst (HasNeededSeal (seal_required config s p) p) refusal.MissingMessageAuthenticator F)
    (is_rightly_sealed secret p) refusal.BadMessageAuthenticator
    (checked needed refusal.MissingMessageAuthenticator further) why (sealed_decided secret p) third in
    let first = fails
    (FailsFirst (IsWellSealed secret (sealing_authenticator p ∷ []) p) refusal.BadMessageAuthenticator
    (FailsFirst (HasNeededSeal (seal_required config s p) p) refusal.MissingMessageAuthenticator F))
    (is_rightly_signed secret p) refusal.BadAuthenticator
    (checked (is_rightly_sealed secret p) refusal.BadMessageAuthenticator
    (checked needed refusal.MissingMessageAuthenticator further)) why (signed_decided secret p) second in
    fails
    (FailsFirst (IsRightlySigned secret p) refusal.BadAuthenticator
    (FailsFirst (IsWellSealed secret (sealing_authenticator p ∷ []) p) refusal.BadMessageAuthenticator
    (FailsFirst (HasNeededSeal (seal_required config s p) p) refusal.MissingMessageAuthenticator F)))
    (has_few_attributes config.max_attributes p) refusal.TooManyAttributes
    (checked (is_rightly_signed secret p) refusal.BadAuthenticator
    (checked (is_rightly_sealed secret p) refusal.BadMessageAuthenticator
    (checked needed refusal.MissingMessageAuthenticator further))) why
    (attributes_decided config.max_attributes p) first

-- its hops, and where it goes
goes_fails : (config : ConfigView) (secret : List ℕ) (a : Arrival) (s : Side) (p : Packet) (at : Place)
    (why : Refusal) → IsRequestAt at s p.code
    → (checked (has_few_hops config.max_hops p) refusal.TooManyHops (route_request config secret a s p at)
    ≡ refused why)
    ↔ FailsToGo config a.seconds s p at why
goes_fails config secret a (side.Peer i) p (place.Auth nth) why code =
    rw (access_hops config.max_hops p code) (access_fails nth config secret a (side.Peer i) p why)
goes_fails config secret a (side.Peer i) p (place.Acct nth) why code =
    let other : p.code ≢ ACCESS_REQUEST = λ is. absurd (omega (arith, is, code)) in
    fails (FailsNamed config (side.Peer i) p) (has_few_hops config.max_hops p) refusal.TooManyHops
    (route_request config secret a (side.Peer i) p (place.Acct nth)) why
    (other_hops config.max_hops p other) (acct_fails nth config secret a (side.Peer i) p why)
goes_fails config secret a (side.Home i) p (place.Reverse k nth) why code =
    let size : ℕ = sent_length config (side.Home i) p k in
    let fresh : Bool = is_fresh config.fresh a.seconds p.attributes in
    let last : Admission = forwarded_for size a (side.Home i) p k (realm_of config p.attributes) in
    let timely = fails (FailsFirst (Fits size) refusal.TooLong NothingFails) fresh refusal.Stale last why
    (fresh_decided nth config a.seconds k p) (size_fails size a (side.Home i) p k (realm_of config p.attributes) why) in
    fails
    (FailsFirst (IsFresh config a.seconds (place.Reverse k nth) p) refusal.Stale
    (FailsFirst (Fits size) refusal.TooLong NothingFails))
    (has_few_hops config.max_hops p) refusal.TooManyHops (checked fresh refusal.Stale last) why
    (other_hops config.max_hops p (reverse_other nth k i p.code code)) timely
goes_fails config secret a (side.Peer i) p (place.Reverse k nth) why code = absurd code
goes_fails config secret a (side.Link l) p (place.Reverse k nth) why code = absurd code
goes_fails config secret a (side.Link l) p (place.Auth nth) why code = absurd code
goes_fails config secret a (side.Home i) p (place.Auth nth) why code = absurd code
goes_fails config secret a (side.Link l) p (place.Acct nth) why code = absurd code
goes_fails config secret a (side.Home i) p (place.Acct nth) why code = absurd code
goes_fails config secret a (side.Peer i) p (place.Out k nth) why code = absurd code
goes_fails config secret a (side.Link l) p (place.Out k nth) why code = absurd code
goes_fails config secret a (side.Home i) p (place.Out k nth) why code = absurd code

-- with the place of the arrival, by its sender
request_fails : (config : ConfigView) (secret : List ℕ) (a : Arrival) (s : Side) (p : Packet) (at : Place)
    (why : Refusal) → a.at ≡ at → IsRequestAt at s p.code
    → (request_admission config secret a s p ≡ refused why)
    ↔ FailsFirst (HasFewAttributes config.max_attributes p) refusal.TooManyAttributes
    (FailsFirst (IsRightlySigned secret p) refusal.BadAuthenticator
    (FailsFirst (IsWellSealed secret (sealing_authenticator p ∷ []) p) refusal.BadMessageAuthenticator
    (FailsFirst (HasNeededSeal (seal_required config s p) p) refusal.MissingMessageAuthenticator
    (FailsToGo config a.seconds s p at)))) why
request_fails config secret a s p at why is code =
    let goes = subst (λ (x : Place).
    (checked (has_few_hops config.max_hops p) refusal.TooManyHops (route_request config secret a s p x)
    ≡ refused why)
    ↔ FailsToGo config a.seconds s p at why) (sym is) (goes_fails config secret a s p at why code) in
    front_fails (FailsToGo config a.seconds s p at) config secret s p
    (checked (has_few_hops config.max_hops p) refusal.TooManyHops (route_request config secret a s p a.at))
    why goes

packet_fails : (config : ConfigView) (a : Arrival) (s : Side) (p : Packet) (at : Place) (why : Refusal)
    → a.at ≡ at → IsRequestAt at s p.code
    → (packet_admission config a s p at ≡ refused why) ↔ FailsFor config a.seconds at s p why
packet_fails config a (side.Peer i) p (place.Auth nth) why is code =
    request_fails config (peer_secret config i) a (side.Peer i) p (place.Auth nth) why is code
packet_fails config a (side.Peer i) p (place.Acct nth) why is code =
    request_fails config (peer_secret config i) a (side.Peer i) p (place.Acct nth) why is code
packet_fails config a (side.Home i) p (place.Reverse k nth) why is code =
    request_fails config (home_secret config k i) a (side.Home i) p (place.Reverse k nth) why is code
packet_fails config a (side.Peer i) p (place.Reverse k nth) why is code = absurd code
packet_fails config a (side.Link l) p (place.Reverse k nth) why is code = absurd code
packet_fails config a (side.Link l) p (place.Auth nth) why is code = absurd code
packet_fails config a (side.Home i) p (place.Auth nth) why is code = absurd code
packet_fails config a (side.Link l) p (place.Acct nth) why is code = absurd code
packet_fails config a (side.Home i) p (place.Acct nth) why is code = absurd code
packet_fails config a (side.Peer i) p (place.Out k nth) why is code = absurd code
packet_fails config a (side.Link l) p (place.Out k nth) why is code = absurd code
packet_fails config a (side.Home i) p (place.Out k nth) why is code = absurd code

pub refused_fails_first : RefusedFailsFirst
refused_fails_first config a p s why read from code =
    let same : admission config a ≡ packet_admission config a s p a.at =
    as_sent config a p read ∙ ap (sent_admission config a p) from ∙ judged_is config a s p code in
    let found = packet_fails config a s p a.at why refl code in
    (λ h. found.0 (sym same ∙ h), λ h. same ∙ found.1 h)
