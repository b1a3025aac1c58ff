-- Where a server of one list stands in another: it is one relation, read from its two ends.
use Rattle.std.proofs.Common.{◌≡◌, ℕ, zero, suc, ◌+◌, ◌<◌, ◌&&◌, ◌||◌, Bool, true, false, List, [], ◌∷◌, length, Option, Some, None, is_some, refl, sym, ap, subst, ◌∙◌, arith, inl, inr, slice_get}
use Rattle.std.specs.List.{AllByRecursion, position_from}
use Rattle.std.specs.Option.{option_and_then}
use Rattle.std.specs.Str.{bytes_eq}
use Rattle.std.proofs.lemmas.Bool.{cases_Bool}
use Rattle.std.proofs.lemmas.Option.{same_Some}
use Rattle.std.proofs.lemmas.Slice.Eq.{bytes_eq-Decides}
use Rattle.roam_conf.specs.Config.{ServerView}
use Rattle.roam_conf.specs.Duplicates.{has_pair, same_endpoint, server_endpoints}
use Rattle.roam_conf.specs.Lookup.{first_place}
use Rattle.roam_address.specs.declared.endpoint.Endpoint.{Endpoint}
use Rattle.roam_conf.proofs.EqualPartsLemmas.{endpoint_decides}
use Rattle.roam_conf.proofs.OneServerLemmas.{one_server, part_of}
use Rattle.roam_reload.specs.Kept.{both_or_none, same_server, server_then}
use Rattle.roam_migrate.specs.Carrying.{Serves}

-- ---- which servers are the same

both : (a b : Bool) → (a && b) ≡ true → (a ≡ true) × (b ≡ true)
both true b h = (refl, h)
both false b h = absurd (cc h)

if_any : (a b : Option Endpoint) → both_or_none same_endpoint a b ≡ true → a ≡ b
if_any None None h = refl
if_any None (Some y) h = absurd (cc h)
if_any (Some x) None h = absurd (cc h)
if_any (Some x) (Some y) h = ap (λ (e : Endpoint). Some e) ((endpoint_decides x y).0 h)

if_any_itself : (a : Option Endpoint) → both_or_none same_endpoint a a ≡ true
if_any_itself None = refl
if_any_itself (Some x) = (endpoint_decides x x).1 refl

record AreSame (a b : ServerView) : Type 0 where
  auth : a.auth ≡ b.auth
  acct : a.acct ≡ b.acct
  secret : a.secret ≡ b.secret

are_same : (a b : ServerView) → same_server a b ≡ true → AreSame a b
are_same a b h =
    let first = both (both_or_none same_endpoint a.auth b.auth && both_or_none same_endpoint a.acct b.acct)
    (bytes_eq a.secret b.secret) h in
    let second = both (both_or_none same_endpoint a.auth b.auth) (both_or_none same_endpoint a.acct b.acct) first.0 in
    record {
      auth = if_any a.auth b.auth second.0;
      acct = if_any a.acct b.acct second.1;
      secret = (bytes_eq-Decides a.secret b.secret).0 first.1;
    }

same_again : (a b : ServerView) → AreSame a b → same_server b a ≡ true
same_again a b h =
    rw (h.auth, h.acct, h.secret)
    (rw (
      if_any_itself b.auth,
      if_any_itself b.acct,
      (bytes_eq-Decides b.secret b.secret).1 refl,
    ) refl)

pub other_way : (a b : ServerView) → same_server a b ≡ true → same_server b a ≡ true
other_way a b h = same_again a b (are_same a b h)

-- ---- where a server stands then

pub record Stands (ss ts : List ServerView) (s t : ℕ) : Type 0 where
  pub before : ServerView
  pub after : ServerView
  pub was : slice_get ss s ≡ Some before
  pub is : slice_get ts t ≡ Some after
  pub same : same_server before after ≡ true

one_more : {X : Type 0} (test : X → Bool) (k : ℕ) (x : X) (xs : List X) (t : ℕ)
    → ((i : ℕ) × (x : X) × (slice_get xs i ≡ Some x) × (test x ≡ true) × (t ≡ k + 1 + i))
    → (i : ℕ) × (y : X) × (slice_get (x ∷ xs) i ≡ Some y) × (test y ≡ true) × (t ≡ k + i)
one_more test k x xs t h = (suc h.0, h.1, h.2, h.3, omega (arith, h.4))

-- what is found passes the test
pub found_at : {X : Type 0} (test : X → Bool) (k : ℕ) (xs : List X) (t : ℕ) → position_from test k xs ≡ Some t
    → (i : ℕ) × (x : X) × (slice_get xs i ≡ Some x) × (test x ≡ true) × (t ≡ k + i)
found_at test k [] t h = absurd (cc h)
found_at {X = X} test k (x ∷ xs) t h =
    elim (cases_Bool (test x)) as (λ _. (i : ℕ) × (y : X) × (slice_get (x ∷ xs) i ≡ Some y) × (test y
    ≡ true) × (t ≡ k + i)) [
      | inl y ↦ (
          let is : Some k ≡ Some t = rw y at h in
          let same : k ≡ t = same_Some k t is in
          (zero, x, refl, y, omega (arith, same)))
      | inr n ↦ one_more test k x xs t (found_at test (k + 1) xs t (rw n at h))
    ]

-- and one that passes is found
is_found : {X : Type 0} (test : X → Bool) (k : ℕ) (xs : List X) (i : ℕ) (x : X) → slice_get xs i ≡ Some x
    → test x ≡ true → (t : ℕ) × (position_from test k xs ≡ Some t)
is_found test k [] i x at passes = absurd (cc at)
is_found {X = X} test k (y ∷ ys) zero x at passes =
    let here : test y ≡ true = ap test (same_Some y x at) ∙ passes in
    (k, rw here refl)
is_found test k (y ∷ ys) (suc i) x at passes =
    elim (cases_Bool (test y)) as (λ _. (t : ℕ) × (position_from test k (y ∷ ys) ≡ Some t)) [
      | inl here ↦ (k, rw here refl)
      | inr no' ↦ (let rest = is_found test (k + 1) ys i x at passes in (rest.0, rw no' rest.1))
    ]

place_by : (ss ts : List ServerView) (s t : ℕ) (o : Option ServerView) → slice_get ss s ≡ o
    → option_and_then (λ a. first_place (same_server a) ts) o ≡ Some t → Stands ss ts s t
place_by ss ts s t None at h = absurd (cc h)
place_by ss ts s t (Some a) at h =
    let found = found_at (same_server a) 0 ts t h in
    let place : found.0 ≡ t = omega (arith, found.4) in
    record {
      before = a;
      after = found.1;
      was = at;
      is = ap (slice_get ts) (sym place) ∙ found.2;
      same = found.3;
    }

here_by : (ss ts : List ServerView) (s : ℕ) (o p : Option ServerView) → slice_get ss s ≡ o → slice_get ts s ≡ p
    → both_or_none same_server o p ≡ true → s < length ss → Stands ss ts s s
here_by ss ts s None p at there h below = absurd (slice_none ss s at below)
  where
    slice_none : (ss : List ServerView) (s : ℕ) → slice_get ss s ≡ None → s < length ss → ⊥
    slice_none [] s at below = omega (arith, below)
    slice_none (x ∷ xs) zero at below = cc at
    slice_none (x ∷ xs) (suc s) at below = slice_none xs s at (omega (arith, below))
here_by ss ts s (Some a) None at there h below = absurd (cc h)
here_by ss ts s (Some a) (Some b) at there h below =
    record { before = a; after = b; was = at; is = there; same = h }

pub stands_then : (ss ts : List ServerView) (s t : ℕ) → server_then ss ts s ≡ Some t → s < length ss
    → Stands ss ts s t
stands_then ss ts s t h below =
    elim (cases_Bool (both_or_none same_server (slice_get ss s) (slice_get ts s))) [
      | inl y ↦ (
          let is : Some s ≡ Some t = rw y at h in
          let same : s ≡ t = same_Some s t is in
          subst (Stands ss ts s) same (here_by ss ts s (slice_get ss s) (slice_get ts s) refl refl y below))
      | inr n ↦ place_by ss ts s t (slice_get ss s) refl (rw n at h)
    ]

-- ---- it stands at one place

-- each server of a list has an endpoint, and no endpoint stands twice
pub record StandOnce (ss : List ServerView) : Type 0 where
  pub once : has_pair same_endpoint (server_endpoints ss) ≡ false
  pub serve : AllByRecursion Serves ss

serves_at : (ss : List ServerView) (s : ℕ) (a : ServerView) → AllByRecursion Serves ss → slice_get ss s ≡ Some a
    → Serves a
serves_at [] s a all at = absurd (cc at)
serves_at (x ∷ xs) zero a all at = subst Serves (same_Some x a at) all.0
serves_at (x ∷ xs) (suc s) a all at = serves_at xs s a all.1 at

-- an endpoint of a server, and of which kind it is
record HasPart (s : ServerView) : Type 0 where
  kind : Bool
  endpoint : Endpoint
  is : part_of kind s ≡ Some endpoint

part_by : (s : ServerView) (a b : Option Endpoint) → s.auth ≡ a → s.acct ≡ b → is_some a || is_some b ≡ true
    → HasPart s
part_by s (Some e) b auth acct some = record { kind = true; endpoint = e; is = auth }
part_by s None (Some e) auth acct some = record { kind = false; endpoint = e; is = acct }
part_by s None None auth acct some = absurd (cc some)

same_part : (kind : Bool) (a b : ServerView) → AreSame a b → part_of kind a ≡ part_of kind b
same_part true a b same = same.auth
same_part false a b same = same.acct

-- two places of one server in such a list are one
one_place : (ts : List ServerView) (t u : ℕ) (a b c : ServerView) → StandOnce ts
    → slice_get ts t ≡ Some b → slice_get ts u ≡ Some c → same_server a b ≡ true → same_server a c ≡ true → t ≡ u
one_place ts t u a b c stand at there p q =
    let part = part_by b b.auth b.acct refl refl (serves_at ts t b stand.serve at) in
    let back = sym (same_part part.kind a c (are_same a c q)) ∙ same_part part.kind a b (are_same a b p) in
    let first : option_and_then (part_of part.kind) (slice_get ts t) ≡ Some part.endpoint =
    ap (option_and_then (part_of part.kind)) at ∙ part.is in
    let second : option_and_then (part_of part.kind) (slice_get ts u) ≡ Some part.endpoint =
    ap (option_and_then (part_of part.kind)) there ∙ back ∙ part.is in
    (one_server ts part.kind part.kind t u part.endpoint stand.once first second).0

then_by : (ss ts : List ServerView) (s : ℕ) (o : Option ServerView) (a b : ServerView) (t : ℕ)
    → o ≡ Some a → slice_get ts t ≡ Some b → same_server a b ≡ true
    → (u : ℕ) × (option_and_then (λ x. first_place (same_server x) ts) o ≡ Some u)
then_by ss ts s None a b t at there same = absurd (cc at)
then_by ss ts s (Some x) a b t at there same =
    let is : x ≡ a = same_Some x a at in
    is_found (same_server x) 0 ts t b there (ap (λ (y : ServerView). same_server y b) is ∙ same)

-- a server stands somewhere then, where one of the other list is the same
some_then : (ss ts : List ServerView) (s t : ℕ) → Stands ss ts s t
    → (u : ℕ) × (server_then ss ts s ≡ Some u)
some_then ss ts s t h =
    elim (cases_Bool (both_or_none same_server (slice_get ss s) (slice_get ts s)))
    as (λ _. (u : ℕ) × (server_then ss ts s ≡ Some u)) [
      | inl y ↦ (s, rw y refl)
      | inr n ↦ (
          let found = then_by ss ts s (slice_get ss s) h.before h.after t h.was h.is h.same in
          (found.0, rw n found.1))
    ]

pub below_of : {X : Type 0} (xs : List X) (i : ℕ) (x : X) → slice_get xs i ≡ Some x → i < length xs
below_of [] i x at = absurd (cc at)
below_of (y ∷ ys) zero x at = omega arith
below_of (y ∷ ys) (suc i) x at = let rest = below_of ys i x at in omega (arith, rest)

then_is : (ss ts : List ServerView) (s t : ℕ) → StandOnce ts → Stands ss ts s t → server_then ss ts s ≡ Some t
then_is ss ts s t once h =
    let found = some_then ss ts s t h in
    let at = stands_then ss ts s found.0 found.1 (below_of ss s h.before h.was) in
    let one : at.before ≡ h.before = same_Some at.before h.before (sym at.was ∙ h.was) in
    let same : same_server h.before at.after ≡ true =
    ap (λ (x : ServerView). same_server x at.after) (sym one) ∙ at.same in
    let place : found.0 ≡ t = one_place ts found.0 t h.before at.after h.after once at.is h.is same h.same in
    found.1 ∙ ap (λ (n : ℕ). Some n) place

turned : (ss ts : List ServerView) (s t : ℕ) → Stands ss ts s t → Stands ts ss t s
turned ss ts s t h =
    record { before = h.after; after = h.before; was = h.is; is = h.was; same = other_way h.before h.after h.same }

-- it is one relation
pub server_back : (ss ts : List ServerView) (s t : ℕ) → StandOnce ss → server_then ss ts s ≡ Some t → s < length ss
    → (server_then ts ss t ≡ Some s) × (t < length ts)
server_back ss ts s t once h below =
    let at = stands_then ss ts s t h below in
    (then_is ts ss t s once (turned ss ts s t at), below_of ts t at.after at.is)
