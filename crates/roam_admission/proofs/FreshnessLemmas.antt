-- A request that isn't stale, as a test and as a fact; and that what was admitted needs no wall clock.
use Rattle.std.proofs.Common.{◌≡◌, ◌↔◌, ◌≤◌, ◌+◌, ℕ, Bool, true, false, List, Option, Some, None, IsTrue, refl, arith}
use Rattle.std.specs.Prelude.{if◌then◌else◌}
use Rattle.std.proofs.lemmas.Bool.Decides.{nat_tests}
use Rattle.roam_wire.specs.Packet.{Attribute, Packet}
use Rattle.roam_wire.specs.declared.refusal.Refusal.{Refusal}
use Rattle.roam_wire.specs.declared.refusal.Refusal.TheVariants as refusal
use Rattle.roam_conf.specs.Config.{ConfigView}
use Rattle.roam_conf.specs.declared.place.Place.{Place}
use Rattle.roam_conf.specs.declared.place.Place.TheVariants as place
use Rattle.roam_admission.specs.Admission.{Arrival, PlainJob, Admission, admitted, checked, forwarded_for, has_few_attributes, has_few_hops, has_needed_seal, home_secret, is_rightly_sealed, is_rightly_signed, is_status_request, is_taken, packet_admission, peer_secret, request_admission, route_request, seal_required, sent_admission, status_from}
use Rattle.roam_admission.specs.Freshness.{IsFresh, are_near, is_fresh, near_enough, sent_at}
use Rattle.roam_admission.specs.Shapings.{sent_length}
use Rattle.roam_admission.specs.UserName.{realm_of}
use Rattle.roam_admission.specs.declared.job.Side.{Side}
use Rattle.roam_admission.specs.declared.job.Side.TheVariants as side

-- ---- the test

near_by : (most now sent : ℕ) → IsTrue (are_near most now sent) ↔ ((now ≤ sent + most) × (sent ≤ now + most))
near_by most now sent = (
  λ h. (grind (arith, nat_tests, h), grind (arith, nat_tests, h)),
  λ h. (
      let one : now ≤ sent + most = h.0 in
      let other : sent ≤ now + most = h.1 in
      grind (arith, nat_tests, one, other)
      ),
)

-- two times are near enough just where the fact holds
abbrev AreNear : Option ℕ → Option ℕ → Option ℕ → Type 0
AreNear fresh seconds sent =
    (most now at : ℕ) → fresh ≡ Some most → seconds ≡ Some now → sent ≡ Some at → (now ≤ at + most) × (at ≤ now + most)

near_decided : (fresh seconds sent : Option ℕ) → IsTrue (near_enough fresh seconds sent) ↔ AreNear fresh seconds sent
near_decided None seconds sent = (λ h. λ most now at is there sent_is. absurd (cc is), λ h. refl)
near_decided (Some most) None sent = (λ h. λ m now at is there sent_is. absurd (cc there), λ h. refl)
near_decided (Some most) (Some now) None = (λ h. λ m n at is there sent_is. absurd (cc sent_is), λ h. refl)
near_decided (Some most) (Some now) (Some sent) = (
  λ h. λ m n at is there sent_is. (
      let near = (near_by most now sent).0 h in
      let same_most : most ≡ m = cc is in
      let same_now : now ≡ n = cc there in
      let same_sent : sent ≡ at = cc sent_is in
      let one : now ≤ sent + most = near.0 in
      let other : sent ≤ now + most = near.1 in
      (omega (arith, one, same_most, same_now, same_sent), omega (arith, other, same_most, same_now, same_sent))
      ),
  λ h. (near_by most now sent).1 (h most now sent refl refl refl),
)

pub fresh_decided : (nth : ℕ) (config : ConfigView) (seconds : Option ℕ) (realm : ℕ) (p : Packet)
    → IsTrue (is_fresh config.fresh seconds p.attributes) ↔ IsFresh config seconds (place.Reverse realm nth) p
fresh_decided nth config seconds realm p = near_decided config.fresh seconds (sent_at p.attributes)

-- ---- without a wall clock

-- nothing is stale then
pub no_clock : (fresh : Option ℕ) (attributes : List Attribute) → is_fresh fresh None attributes ≡ true
no_clock None attributes = refl
no_clock (Some most) attributes = refl

abbrev pub without_clock : Arrival → Arrival
without_clock a = record a { seconds = None }

-- what one admits the other does
abbrev Keeps : Admission → Admission → Type 0
Keeps x y = (job : PlainJob) → x ≡ admitted job → y ≡ admitted job

keeps-checked : (b : Bool) (why : Refusal) (x y : Admission) → Keeps x y → Keeps (checked b why x) (checked b why y)
keeps-checked true why x y keeps job is = keeps job is
keeps-checked false why x y keeps job is = absurd (cc is)

-- also where less is looked at
drops-check : (b c : Bool) (why : Refusal) (x : Admission) → c ≡ true → Keeps (checked b why x) (checked c why x)
drops-check true true why x holds job is = is
drops-check false true why x holds job is = absurd (cc is)
drops-check b false why x holds job is = absurd (cc holds)

keeps-route : (config : ConfigView) (secret : List ℕ) (a : Arrival) (s : Side) (p : Packet) (at : Place)
    → Keeps (route_request config secret a s p at) (route_request config secret (without_clock a) s p at)
keeps-route config secret a s p (place.Reverse k nth) =
    drops-check (is_fresh config.fresh a.seconds p.attributes) (is_fresh config.fresh None p.attributes) refusal.Stale
    (forwarded_for (sent_length config s p k) a s p k (realm_of config p.attributes))
    (no_clock config.fresh p.attributes)
keeps-route config secret a s p (place.Auth nth) = λ job is. is
keeps-route config secret a s p (place.Acct nth) = λ job is. is
keeps-route config secret a s p (place.Out k nth) = λ job is. is

keeps-request : (config : ConfigView) (secret : List ℕ) (a : Arrival) (s : Side) (p : Packet)
    → Keeps (request_admission config secret a s p) (request_admission config secret (without_clock a) s p)
keeps-request config secret a s p =
    let few : Bool = has_few_hops config.max_hops p in
    let needed : Bool = has_needed_seal (seal_required config s p) p in
    let sealed : Bool = is_rightly_sealed secret p in
    let one : Admission = route_request config secret a s p a.at in
    let other : Admission = route_request config secret (without_clock a) s p a.at in
    let fourth = keeps-checked few refusal.TooManyHops one other (keeps-route config secret a s p a.at) in
    let third = keeps-checked needed refusal.MissingMessageAuthenticator (checked few refusal.TooManyHops one)
    (checked few refusal.TooManyHops other) fourth in
    let second = keeps-checked sealed refusal.BadMessageAuthenticator
    (checked needed refusal.MissingMessageAuthenticator (checked few refusal.TooManyHops one))
    (checked needed refusal.MissingMessageAuthenticator (checked few refusal.TooManyHops other)) third in
    let first = keeps-checked (is_rightly_signed secret p) refusal.BadAuthenticator
    (checked sealed refusal.BadMessageAuthenticator
    (checked needed refusal.MissingMessageAuthenticator (checked few refusal.TooManyHops one)))
    (checked sealed refusal.BadMessageAuthenticator
    (checked needed refusal.MissingMessageAuthenticator (checked few refusal.TooManyHops other))) second in
    keeps-checked (has_few_attributes config.max_attributes p) refusal.TooManyAttributes _ _ first

keeps-packet : (config : ConfigView) (a : Arrival) (s : Side) (p : Packet) (at : Place)
    → Keeps (packet_admission config a s p at) (packet_admission config (without_clock a) s p at)
keeps-packet config a s p (place.Out k nth) = λ job is. is
keeps-packet config a (side.Peer i) p (place.Auth nth) = keeps-request config (peer_secret config i) a (side.Peer i) p
keeps-packet config a (side.Peer i) p (place.Acct nth) = keeps-request config (peer_secret config i) a (side.Peer i) p
keeps-packet config a (side.Peer i) p (place.Reverse k nth) =
    keeps-request config (peer_secret config i) a (side.Peer i) p
keeps-packet config a (side.Home i) p (place.Reverse k nth) =
    keeps-request config (home_secret config k i) a (side.Home i) p
keeps-packet config a (side.Home i) p (place.Auth nth) = λ job is. is
keeps-packet config a (side.Home i) p (place.Acct nth) = λ job is. is
keeps-packet config a (side.Link l) p (place.Auth nth) = λ job is. is
keeps-packet config a (side.Link l) p (place.Acct nth) = λ job is. is
keeps-packet config a (side.Link l) p (place.Reverse k nth) = λ job is. is

-- by whether it is a Status-Server
keeps-either : (b : Bool) (status x y : Admission) → Keeps x y
    → Keeps (if b then status else x) (if b then status else y)
keeps-either true status x y keeps job is = is
keeps-either false status x y keeps job is = keeps job is

-- what a packet's arrival was admitted for, it is admitted for without the wall clock's seconds
pub keeps-sent : (config : ConfigView) (a : Arrival) (p : Packet) (s : Option Side) (job : PlainJob)
    → sent_admission config a p s ≡ admitted job → sent_admission config (without_clock a) p s ≡ admitted job
keeps-sent config a p None job is = is
keeps-sent config a p (Some s) job is =
    let taken : Bool = is_taken a.at s p.code in
    let one : Admission = packet_admission config a s p a.at in
    let other : Admission = packet_admission config (without_clock a) s p a.at in
    keeps-either (is_status_request config a.at s p.code) (status_from config a s p)
    (checked taken refusal.WrongCode one) (checked taken refusal.WrongCode other)
    (keeps-checked taken refusal.WrongCode one other (keeps-packet config a s p a.at)) job is
