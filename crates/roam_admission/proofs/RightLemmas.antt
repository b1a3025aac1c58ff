-- What a request gives from its attributes on is right, by the place and the sender.
use Rattle.std.proofs.Common.{◌≡◌, ◌≢◌, ◌↔◌, ℕ, Bool, true, false, List, [], ◌∷◌, Option, IsTrue, inl, inr, refl, arith}
use Rattle.std.specs.Prelude.{◌==◌}
use Rattle.std.proofs.lemmas.Bool.Decides.{Decides-eqb}
use Rattle.roam_wire.specs.Packet.{Packet}
use Rattle.roam_wire.specs.declared.code.TheConstants.{ACCESS_REQUEST, ACCOUNTING_REQUEST}
use Rattle.roam_wire.specs.declared.refusal.Refusal.TheVariants as refusal
use Rattle.roam_crypto.specs.MessageAuthenticator.{IsWellSealed}
use Rattle.roam_conf.specs.Config.{ConfigView}
use Rattle.roam_conf.specs.declared.place.Place.{Place}
use Rattle.roam_conf.specs.declared.place.Place.TheVariants as place
use Rattle.roam_admission.specs.UserName.{realm_of}
use Rattle.roam_admission.specs.Freshness.{is_fresh}
use Rattle.roam_admission.specs.Shapings.{sent_length}
use Rattle.roam_admission.specs.Admission.{Arrival, PlainJob, Admission, admitted, checked, forwarded_for, route_request, has_few_attributes, is_rightly_signed, is_rightly_sealed, has_needed_seal, has_few_hops, seal_required, peer_secret, home_secret}
use Rattle.roam_admission.specs.AdmittedRequests.{IsRequestAt, HasFewAttributes, IsRightlySigned, sealing_authenticator, HasNeededSeal, HasFewHops, IsRightRequest, IsPassedOn}
use Rattle.roam_admission.specs.declared.job.Side.{Side}
use Rattle.roam_admission.specs.declared.job.Side.TheVariants as side
use Rattle.roam_admission.proofs.FreshnessLemmas.{fresh_decided}
use Rattle.roam_admission.proofs.RequestTestLemmas.{is_false, signed_decided, sealed_decided, needed_decided, hops_decided, attributes_decided}
use Rattle.roam_admission.proofs.RoutedLemmas.{IsJob, access_admitted, acct_goes, asked_takes, forwarded_admitted, takes_asked, through}

-- ---- a request, from its attributes on

-- the hops of a request that isn't an Access-Request
pub other_hops : (most : Option ℕ) (p : Packet) → p.code ≢ ACCESS_REQUEST
    → IsTrue (has_few_hops most p) ↔ HasFewHops most p
other_hops most p other =
    let test : (p.code == ACCESS_REQUEST) ≡ false =
    is_false (p.code == ACCESS_REQUEST) (λ is. other ((Decides-eqb p.code ACCESS_REQUEST).0 is)) in
    rw test (hops_decided most p)

pub access_hops : (most : Option ℕ) (p : Packet) → p.code ≡ ACCESS_REQUEST → has_few_hops most p ≡ true
access_hops most p is = rw is refl

-- what is looked at before where the request goes
abbrev pub front_checked : ConfigView → List ℕ → Side → Packet → Admission → Admission
front_checked config secret s p further =
    checked (has_few_attributes config.max_attributes p) refusal.TooManyAttributes
    (checked (is_rightly_signed secret p) refusal.BadAuthenticator
    (checked (is_rightly_sealed secret p) refusal.BadMessageAuthenticator
    (checked (has_needed_seal (seal_required config s p) p) refusal.MissingMessageAuthenticator further)))

-- the same as facts
record IsFrontRight (config : ConfigView) (secret : List ℕ) (s : Side) (p : Packet) : Type 0 where
  attributes : HasFewAttributes config.max_attributes p
  signed : IsRightlySigned secret p
  well_sealed : IsWellSealed secret (sealing_authenticator p ∷ []) p
  needed_seal : HasNeededSeal (seal_required config s p) p

front_admitted : {Q : Type 0} (config : ConfigView) (secret : List ℕ) (s : Side) (p : Packet)
    (further : Admission) (job : PlainJob)
    → ((further ≡ admitted job) ↔ Q)
    → (front_checked config secret s p further ≡ admitted job)
    ↔ (IsFrontRight config secret s p × Q)
front_admitted config secret s p further job q =
    let needed : Bool = has_needed_seal (seal_required config s p) p in
    let third = through needed refusal.MissingMessageAuthenticator further job
    (needed_decided (seal_required config s p) p) q in
    let second = through (is_rightly_sealed secret p) refusal.BadMessageAuthenticator
    (checked needed refusal.MissingMessageAuthenticator further) job (sealed_decided secret p) third in
    let first = through (is_rightly_signed secret p) refusal.BadAuthenticator
    (checked (is_rightly_sealed secret p) refusal.BadMessageAuthenticator
    (checked needed refusal.MissingMessageAuthenticator further)) job (signed_decided secret p) second in
    let counted = through (has_few_attributes config.max_attributes p) refusal.TooManyAttributes
    (checked (is_rightly_signed secret p) refusal.BadAuthenticator
    (checked (is_rightly_sealed secret p) refusal.BadMessageAuthenticator
    (checked needed refusal.MissingMessageAuthenticator further))) job
    (attributes_decided config.max_attributes p) first in (
      λ h. (
          let all = counted.0 h in (
            record {
              attributes = all.0;
              signed = all.1.0;
              well_sealed = all.1.1.0;
              needed_seal = all.1.1.1.0;
            },
            all.1.1.1.1,
          )
          ),
      λ h. counted.1 (h.0.attributes, (h.0.signed, (h.0.well_sealed, (h.0.needed_seal, h.1)))),
    )

-- what a request of a sender gives at a place is right, with the secret that they share
abbrev pub Right : ConfigView → Arrival → Place → Side → Packet → PlainJob → Type 0
Right config a at s p job =
    IsJob a s p (realm_of config p.attributes) job × IsRightRequest config a.seconds at s p job.realm

-- an Access-Request of a peer
pub auth_admitted : (nth : ℕ) (config : ConfigView) (a : Arrival) (i : ℕ) (p : Packet) (job : PlainJob)
    → p.code ≡ ACCESS_REQUEST
    → (front_checked config (peer_secret config i) (side.Peer i) p
    (checked (has_few_hops config.max_hops p) refusal.TooManyHops
    (route_request config (peer_secret config i) a (side.Peer i) p (place.Auth nth))) ≡ admitted job)
    ↔ Right config a (place.Auth nth) (side.Peer i) p job
auth_admitted nth config a i p job access =
    let secret : List ℕ = peer_secret config i in
    let goes = access_admitted nth config secret a (side.Peer i) p job in
    let hops : IsTrue (has_few_hops config.max_hops p) = access_hops config.max_hops p access in
    let always : IsTrue (has_few_hops config.max_hops p) ↔ Unit {0} = (λ h. tt, λ h. hops) in
    let further = through (has_few_hops config.max_hops p) refusal.TooManyHops
    (route_request config secret a (side.Peer i) p (place.Auth nth)) job always goes in
    let whole = front_admitted config secret (side.Peer i) p
    (checked (has_few_hops config.max_hops p) refusal.TooManyHops
    (route_request config secret a (side.Peer i) p (place.Auth nth))) job further in (
      λ h. (
          let all = whole.0 h in
          let passed = all.1.1.0 in
          let rest = all.1.1.1 in (
            rest.1.1,
            record {
              code = access;
              attributes = all.0.attributes;
              signed = all.0.signed;
              well_sealed = all.0.well_sealed;
              needed_seal = all.0.needed_seal;
              hops = passed.hops;
              passwords = λ is. passed.passwords;
              realm_is = rest.0;
              fresh = tt;
              asks = asked_takes config (side.Peer i) (realm_of config p.attributes) job.realm passed.names rest.0;
              accounting = λ is. absurd (omega (arith, access, is));
              size = rest.1.0;
            },
          )
          ),
      λ h. (
          let r = h.1 in
          let passed : IsPassedOn config (side.Peer i) p = record {
            names = takes_asked config (side.Peer i) (realm_of config p.attributes) job.realm r.realm_is r.asks;
            passwords = r.passwords access;
            hops = r.hops;
          } in
          let front : IsFrontRight config secret (side.Peer i) p = record {
            attributes = r.attributes;
            signed = r.signed;
            well_sealed = r.well_sealed;
            needed_seal = r.needed_seal;
          } in
          whole.1 (front, (tt, (passed, (r.realm_is, (r.size, h.0)))))
          ),
    )

-- any other request of a peer
pub acct_admitted : (nth : ℕ) (config : ConfigView) (a : Arrival) (i : ℕ) (p : Packet) (job : PlainJob)
    → p.code ≡ ACCOUNTING_REQUEST
    → (front_checked config (peer_secret config i) (side.Peer i) p
    (checked (has_few_hops config.max_hops p) refusal.TooManyHops
    (route_request config (peer_secret config i) a (side.Peer i) p (place.Acct nth))) ≡ admitted job)
    ↔ Right config a (place.Acct nth) (side.Peer i) p job
acct_admitted nth config a i p job code =
    let secret : List ℕ = peer_secret config i in
    let other : p.code ≢ ACCESS_REQUEST = λ is. absurd (omega (arith, is, code)) in
    let goes = acct_goes nth config secret a (side.Peer i) p job in
    let further = through (has_few_hops config.max_hops p) refusal.TooManyHops
    (route_request config secret a (side.Peer i) p (place.Acct nth)) job
    (other_hops config.max_hops p other) goes in
    let whole = front_admitted config secret (side.Peer i) p
    (checked (has_few_hops config.max_hops p) refusal.TooManyHops
    (route_request config secret a (side.Peer i) p (place.Acct nth))) job further in (
      λ h. (
          let all = whole.0 h in
          let rest = all.1.1 in (
            rest.1.1.1.1,
            record {
              code = code;
              attributes = all.0.attributes;
              signed = all.0.signed;
              well_sealed = all.0.well_sealed;
              needed_seal = all.0.needed_seal;
              hops = all.1.0;
              passwords = λ is. absurd (other is);
              realm_is = rest.0;
              fresh = tt;
              asks = rest.1.0;
              accounting = λ _. rest.1.1.0;
              size = rest.1.1.1.0;
            },
          )
          ),
      λ h. (
          let r = h.1 in
          let front : IsFrontRight config secret (side.Peer i) p = record {
            attributes = r.attributes;
            signed = r.signed;
            well_sealed = r.well_sealed;
            needed_seal = r.needed_seal;
          } in
          whole.1 (front, (r.hops, (r.realm_is, (r.asks, (r.accounting code, (r.size, h.0))))))
          ),
    )

-- a reverse request of a home server
pub reverse_other : (nth : ℕ) (realm i code : ℕ) → IsRequestAt (place.Reverse realm nth) (side.Home i) code
    → code ≢ ACCESS_REQUEST
reverse_other nth realm i code (inl one) = λ is. absurd (omega (arith, one, is))
reverse_other nth realm i code (inr one) = λ is. absurd (omega (arith, one, is))

not_accounting : (nth : ℕ) (realm i code : ℕ) → IsRequestAt (place.Reverse realm nth) (side.Home i) code
    → code ≢ ACCOUNTING_REQUEST
not_accounting nth realm i code (inl one) = λ is. absurd (omega (arith, one, is))
not_accounting nth realm i code (inr one) = λ is. absurd (omega (arith, one, is))

pub reverse_admitted : (nth : ℕ) (config : ConfigView) (a : Arrival) (own i : ℕ) (p : Packet) (job : PlainJob)
    → IsRequestAt (place.Reverse own nth) (side.Home i) p.code
    → (front_checked config (home_secret config own i) (side.Home i) p
    (checked (has_few_hops config.max_hops p) refusal.TooManyHops
    (route_request config (home_secret config own i) a (side.Home i) p (place.Reverse own nth))) ≡ admitted job)
    ↔ Right config a (place.Reverse own nth) (side.Home i) p job
reverse_admitted nth config a own i p job code =
    let secret : List ℕ = home_secret config own i in
    let other : p.code ≢ ACCESS_REQUEST = reverse_other nth own i p.code code in
    let size : ℕ = sent_length config (side.Home i) p own in
    let fresh : Bool = is_fresh config.fresh a.seconds p.attributes in
    let last : Admission = forwarded_for size a (side.Home i) p own (realm_of config p.attributes) in
    let goes = through fresh refusal.Stale last job (fresh_decided nth config a.seconds own p)
    (forwarded_admitted size a (side.Home i) p own (realm_of config p.attributes) job) in
    let further = through (has_few_hops config.max_hops p) refusal.TooManyHops (checked fresh refusal.Stale last) job
    (other_hops config.max_hops p other) goes in
    let whole = front_admitted config secret (side.Home i) p
    (checked (has_few_hops config.max_hops p) refusal.TooManyHops (checked fresh refusal.Stale last)) job further in (
      λ h. (
          let all = whole.0 h in
          let rest = all.1.1.1 in (
            rest.1.1,
            record {
              code = code;
              attributes = all.0.attributes;
              signed = all.0.signed;
              well_sealed = all.0.well_sealed;
              needed_seal = all.0.needed_seal;
              hops = all.1.0;
              passwords = λ is. absurd (other is);
              realm_is = rest.1.0;
              fresh = all.1.1.0;
              asks = tt;
              accounting = λ is. absurd (not_accounting nth own i p.code code is);
              size = rest.0;
            },
          )
          ),
      λ h. (
          let r = h.1 in
          let front : IsFrontRight config secret (side.Home i) p = record {
            attributes = r.attributes;
            signed = r.signed;
            well_sealed = r.well_sealed;
            needed_seal = r.needed_seal;
          } in
          whole.1 (front, (r.hops, (r.fresh, (r.size, (r.realm_is, h.0)))))
          ),
    )
