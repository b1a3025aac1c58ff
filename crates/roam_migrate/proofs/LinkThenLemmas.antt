-- A link of both parts is one in each: what it is then, and what it was, are one relation read from its two ends.
use Rattle.std.proofs.Common.{◌≡◌, ◌⊎◌, ℕ, zero, suc, ◌+◌, ◌*◌, ◌<◌, ◌≤◌, Bool, true, false, List, [], ◌∷◌, length, slice_get, Option, Some, None, option_map, refl, sym, ap, subst, ◌∙◌, arith, inl, inr, if◌then◌else◌}
use Rattle.std.proofs.lemmas.Bool.{cases_Bool, cases_lt, or_parts}
use Rattle.std.proofs.lemmas.Option.{same_Some}
use Rattle.roam_conf.specs.Config.{PeerView, RealmView, ServerView}
use Rattle.roam_conf.specs.Duplicates.{has_pair, same_client, same_endpoint, server_endpoints}
use Rattle.roam_conf.specs.declared.place.Link.{Link}
use Rattle.roam_conf.specs.declared.place.Link.TheVariants as link
use Rattle.std.proofs.lemmas.Nat.{mul-le}
use Rattle.roam_address.specs.declared.endpoint.Endpoint.{Endpoint}
use Rattle.roam_conf.specs.Lookup.{out_of}
use Rattle.roam_reload.specs.Kept.{both_or_none, keeps_coa, of_peer, same_out, server_then}
use Rattle.roam_realm.specs.RealmConfig.{IsLink, RealmConfig, end_place, link_count, link_place, server_link_count}
use Rattle.roam_migrate.specs.Carrying.{AreDistinct, HaveDistinctServers}
use Rattle.roam_migrate.specs.Reload.{link_before, link_then, way_before, way_then}
use Rattle.roam_migrate.proofs.LinkPlaceLemmas.{way_bound}
use Rattle.roam_migrate.proofs.ServerThenLemmas.{StandOnce, below_of, server_back, stands_then}

-- ---- links

once_of : (realm : RealmView) → AreDistinct realm → StandOnce realm.servers
once_of realm h = record {
  once = (or_parts (has_pair same_endpoint (server_endpoints realm.servers)) (has_pair same_client realm.coa_clients)
      h.once).0;
  serve = h.serve;
}

module _ (ss ts : List ServerView) (once : StandOnce ss)
    (make : ℕ → Link) where
  server_link_by : (s : ℕ) (m : Link) (o : Option ℕ) → server_then ss ts s ≡ o → s < length ss
      → option_map make o ≡ Some m
      → (t : ℕ) × (m ≡ make t) × (t < length ts) × (option_map make (server_then ts ss t) ≡ Some (make s))
  server_link_by s m None at below h = absurd (cc h)
  server_link_by s m (Some t) at below h =
      let back = server_back ss ts s t once at below in
      (t, sym (same_Some (make t) m h), back.1, ap (option_map make) back.0)

coa_below : (old new : List PeerView) (p : ℕ) → of_peer keeps_coa old new p ≡ true → p < length old → p < length new
coa_below [] new p h below = omega (arith, below)
coa_below (a ∷ old) [] zero h below = absurd (cc h)
coa_below (a ∷ old) (b ∷ new) zero h below = omega arith
coa_below (a ∷ old) [] (suc p) h below =
    let rest = coa_below old [] p h (omega (arith, below)) in omega (arith, rest)
coa_below (a ∷ old) (b ∷ new) (suc p) h below =
    let rest = coa_below old new p h (omega (arith, below)) in omega (arith, rest)

coa_by : (b : Bool) (p out : ℕ) (m : Link) → (if b then Some (link.Coa p out) else None) ≡ Some m
    → (b ≡ true) × (m ≡ link.Coa p out)
coa_by true p out m h = (refl, sym (same_Some (link.Coa p out) m h))
coa_by false p out m h = absurd (cc h)

-- where an `out` of one part is that of the other too, both have it
out_then : (old new : List Endpoint) (k : ℕ) → k < length old
    → both_or_none same_endpoint (slice_get old k) (slice_get new k) ≡ true → k < length new
out_then [] new k below same = absurd (omega (arith, below))
out_then (o ∷ os) [] zero below same = absurd (cc same)
out_then (o ∷ os) [] (suc k) below same =
    let rest = out_then os [] k (omega (arith, below)) same in omega (arith, rest)
out_then (o ∷ os) (n ∷ ns) zero below same = omega arith
out_then (o ∷ os) (n ∷ ns) (suc k) below same =
    let rest = out_then os ns k (omega (arith, below)) same in omega (arith, rest)

out_before : (old new : List Endpoint) (k : ℕ) → k < length new
    → both_or_none same_endpoint (slice_get old k) (slice_get new k) ≡ true → k < length old
out_before old [] k below same = absurd (omega (arith, below))
out_before [] (n ∷ ns) zero below same = absurd (cc same)
out_before [] (n ∷ ns) (suc k) below same =
    let rest = out_before [] ns k (omega (arith, below)) same in omega (arith, rest)
out_before (o ∷ os) (n ∷ ns) zero below same = omega arith
out_before (o ∷ os) (n ∷ ns) (suc k) below same =
    let rest = out_before os ns k (omega (arith, below)) same in omega (arith, rest)

-- a link keeps its way
made_out : (make : ℕ → Link) (k : ℕ) → ((t : ℕ) → out_of (make t) ≡ k) → (o : Option ℕ) (m : Link)
    → option_map make o ≡ Some m → out_of m ≡ k
made_out make k each None m h = absurd (cc h)
made_out make k each (Some t) m h = ap out_of (sym (same_Some (make t) m h)) ∙ each t

then_out : (old new : RealmConfig) (l m : Link) → link_then old new l ≡ Some m → out_of m ≡ out_of l
then_out old new (link.Auth s out) m h =
    made_out (λ t. link.Auth t out) out (λ t. refl) (server_then old.realm.servers new.realm.servers s) m h
then_out old new (link.Acct s out) m h =
    made_out (λ t. link.Acct t out) out (λ t. refl) (server_then old.realm.servers new.realm.servers s) m h
then_out old new (link.Coa p out) m h =
    let k = coa_by (of_peer keeps_coa old.peers new.peers p) p out m h in ap out_of k.1

before_out : (old new : RealmConfig) (m l : Link) → link_before old new m ≡ Some l → out_of l ≡ out_of m
before_out old new (link.Auth s out) l h =
    made_out (λ t. link.Auth t out) out (λ t. refl) (server_then new.realm.servers old.realm.servers s) l h
before_out old new (link.Acct s out) l h =
    made_out (λ t. link.Acct t out) out (λ t. refl) (server_then new.realm.servers old.realm.servers s) l h
before_out old new (link.Coa p out) l h =
    let k = coa_by (of_peer keeps_coa old.peers new.peers p) p out l h in ap out_of k.1

-- what a link is then was it before
abbrev pub IsBack : RealmConfig → RealmConfig → Link → Link → Type 0
IsBack old new l m = (link_before old new m ≡ Some l) × IsLink new m

link_back : (old new : RealmConfig) (l m : Link) → HaveDistinctServers old new → IsLink old l
    → out_of l < length new.realm.out → link_then old new l ≡ Some m → IsBack old new l m
link_back old new (link.Auth s out) m once is way h =
    let k = server_link_by old.realm.servers new.realm.servers (once_of old.realm once.0) (λ t. link.Auth t out) s m
    (server_then old.realm.servers new.realm.servers s) refl is.0 h in
    subst (IsBack old new (link.Auth s out)) (sym k.1) (k.3, (k.2, way))
link_back old new (link.Acct s out) m once is way h =
    let k = server_link_by old.realm.servers new.realm.servers (once_of old.realm once.0) (λ t. link.Acct t out) s m
    (server_then old.realm.servers new.realm.servers s) refl is.0 h in
    subst (IsBack old new (link.Acct s out)) (sym k.1) (k.3, (k.2, way))
link_back old new (link.Coa p out) m once is way h =
    let k = coa_by (of_peer keeps_coa old.peers new.peers p) p out m h in
    subst (IsBack old new (link.Coa p out)) (sym k.1) (rw k.0 refl, (coa_below old.peers new.peers p k.0 is.0, way))

-- and what it was it is then
link_forth : (old new : RealmConfig) (l m : Link) → HaveDistinctServers old new → IsLink new m
    → link_before old new m ≡ Some l → link_then old new l ≡ Some m
link_forth old new l (link.Auth s out) once is h =
    let k = server_link_by new.realm.servers old.realm.servers (once_of new.realm once.1) (λ t. link.Auth t out) s l
    (server_then new.realm.servers old.realm.servers s) refl is.0 h in
    subst (λ (x : Link). link_then old new x ≡ Some (link.Auth s out)) (sym k.1) k.3
link_forth old new l (link.Acct s out) once is h =
    let k = server_link_by new.realm.servers old.realm.servers (once_of new.realm once.1) (λ t. link.Acct t out) s l
    (server_then new.realm.servers old.realm.servers s) refl is.0 h in
    subst (λ (x : Link). link_then old new x ≡ Some (link.Acct s out)) (sym k.1) k.3
link_forth old new l (link.Coa p out) once is h =
    let k = coa_by (of_peer keeps_coa old.peers new.peers p) p out l h in
    subst (λ (x : Link). link_then old new x ≡ Some (link.Coa p out)) (sym k.1) (rw k.0 refl)

-- the same of ways
pub way_back : (old new : RealmConfig) (l m : Link) → HaveDistinctServers old new → IsLink old l
    → way_then old new l ≡ Some m → (way_before old new m ≡ Some l) × IsLink new m
way_back old new l m once is h =
    elim (cases_Bool (same_out old.realm new.realm (out_of l))) [
      | inl y ↦ (
          let there = out_then old.realm.out new.realm.out (out_of l) (way_bound old l is) y in
          let is_then : link_then old new l ≡ Some m = rw y at h in
          let k = link_back old new l m once is there is_then in
          let same = ap (same_out old.realm new.realm) (then_out old new l m is_then) ∙ y in
          (rw same k.0, k.1))
      | inr n ↦ absurd (let k : None ≡ Some m = rw n at h in cc)
    ]

pub way_forth : (old new : RealmConfig) (l m : Link) → HaveDistinctServers old new → IsLink new m
    → way_before old new m ≡ Some l → way_then old new l ≡ Some m
way_forth old new l m once is h =
    elim (cases_Bool (same_out old.realm new.realm (out_of m))) [
      | inl y ↦ (
          let was : link_before old new m ≡ Some l = rw y at h in
          let same = ap (same_out old.realm new.realm) (before_out old new m l was) ∙ y in
          rw same (link_forth old new l m once is was))
      | inr n ↦ absurd (let k : None ≡ Some l = rw n at h in cc)
    ]

-- two links that were one are one
pub one_way : (old new : RealmConfig) (l m n : Link) → HaveDistinctServers old new → IsLink new m → IsLink new n
    → way_before old new m ≡ Some l → way_before old new n ≡ Some l → m ≡ n
one_way old new l m n once is is' h k =
    same_Some m n (sym (way_forth old new l m once is h) ∙ way_forth old new l n once is' k)

-- a link was there, or stands behind all that were
abbrev pub WasThere : RealmConfig → Link → Type 0
WasThere old l = IsLink old l ⊎ ((IsLink old l → ⊥) × (link_count old ≤ link_place old l))

-- a server's link was a server's, if any
pub server_was : (old new : RealmConfig) (s out : ℕ) (l : Link) → HaveDistinctServers old new
    → s < length new.realm.servers → out < length old.realm.out
    → link_before old new (link.Auth s out) ≡ Some l → IsLink old l
server_was old new s out l once is way h =
    let k = server_link_by new.realm.servers old.realm.servers (once_of new.realm once.1) (λ t. link.Auth t out) s l
    (server_then new.realm.servers old.realm.servers s) refl is h in
    subst (IsLink old) (sym k.1) (k.2, way)

pub account_was : (old new : RealmConfig) (s out : ℕ) (l : Link) → HaveDistinctServers old new
    → s < length new.realm.servers → out < length old.realm.out
    → link_before old new (link.Acct s out) ≡ Some l → IsLink old l
account_was old new s out l once is way h =
    let k = server_link_by new.realm.servers old.realm.servers (once_of new.realm once.1) (λ t. link.Acct t out) s l
    (server_then new.realm.servers old.realm.servers s) refl is h in
    subst (IsLink old) (sym k.1) (k.2, way)

coa_was : (old : RealmConfig) (p out : ℕ) → out < length old.realm.out → WasThere old (link.Coa p out)
coa_was old p out way =
    elim (cases_lt p (length old.peers)) as (λ _. WasThere old (link.Coa p out)) [
      | inl here ↦ inl (here, way)
      | inr past ↦ (
          let ends : server_link_count old + length old.peers ≤ server_link_count old + p = omega (arith, past) in
          let fits = mul-le (server_link_count old + length old.peers) (length old.realm.out)
          (server_link_count old + p) (length old.realm.out) ends (omega arith) in
          inr ((λ was. let never : ⊥ = omega (arith, was.0, past) in never), omega (arith, fits)))
    ]

link_was : (old new : RealmConfig) (m l : Link) → HaveDistinctServers old new → IsLink new m
    → out_of m < length old.realm.out → link_before old new m ≡ Some l → WasThere old l
link_was old new (link.Auth s out) l once is way h = inl (server_was old new s out l once is.0 way h)
link_was old new (link.Acct s out) l once is way h = inl (account_was old new s out l once is.0 way h)
link_was old new (link.Coa p out) l once is way h =
    let k = coa_by (of_peer keeps_coa old.peers new.peers p) p out l h in
    subst (WasThere old) (sym k.1) (coa_was old p out way)

pub was_there : (old new : RealmConfig) (m l : Link) → HaveDistinctServers old new → IsLink new m
    → way_before old new m ≡ Some l → WasThere old l
was_there old new m l once is h =
    elim (cases_Bool (same_out old.realm new.realm (out_of m))) as (λ _. WasThere old l) [
      | inl y ↦ (
          let way = out_before old.realm.out new.realm.out (out_of m) (way_bound new m is) y in
          link_was old new m l once is way (rw y at h))
      | inr n ↦ absurd (let k : None ≡ Some l = rw n at h in cc)
    ]

-- its way was one of the realm's
pub way_was : (old new : RealmConfig) (m l : Link) → IsLink new m → way_before old new m ≡ Some l
    → out_of m < length old.realm.out
way_was old new m l is h =
    elim (cases_Bool (same_out old.realm new.realm (out_of m))) as (λ _. out_of m < length old.realm.out) [
      | inl y ↦ out_before old.realm.out new.realm.out (out_of m) (way_bound new m is) y
      | inr n ↦ absurd (let k : None ≡ Some l = rw n at h in cc)
    ]

-- where a server's link stands then, a server's stood
pub server_place : (old new : RealmConfig) (m l : Link) → HaveDistinctServers old new → IsLink new m
    → out_of m < length old.realm.out → link_place new m < 2 * length new.realm.servers * length new.realm.out
    → link_before old new m ≡ Some l → link_place old l < 2 * length old.realm.servers * length old.realm.out
server_place old new (link.Auth s out) l once is way below h =
    let k = server_link_by new.realm.servers old.realm.servers (once_of new.realm once.1) (λ t. link.Auth t out) s l
    (server_then new.realm.servers old.realm.servers s) refl is.0 h in
    let least = mul-le (k.0 + 1) (length old.realm.out) (2 * length old.realm.servers) (length old.realm.out)
    (omega (arith, k.2)) (omega arith) in
    subst (λ (x : Link). link_place old x < 2 * length old.realm.servers * length old.realm.out) (sym k.1)
    (omega (arith, least, way))
server_place old new (link.Acct s out) l once is way below h =
    let k = server_link_by new.realm.servers old.realm.servers (once_of new.realm once.1) (λ t. link.Acct t out) s l
    (server_then new.realm.servers old.realm.servers s) refl is.0 h in
    let least = mul-le (length old.realm.servers + k.0 + 1) (length old.realm.out) (2 * length old.realm.servers)
    (length old.realm.out) (omega (arith, k.2)) (omega arith) in
    subst (λ (x : Link). link_place old x < 2 * length old.realm.servers * length old.realm.out) (sym k.1)
    (omega (arith, least, way))
server_place old new (link.Coa p out) l once is way below h =
    let behind = mul-le (2 * length new.realm.servers) (length new.realm.out)
    (length new.realm.servers + length new.realm.servers + p) (length new.realm.out) (omega arith) (omega arith) in
    absurd (omega (arith, below, behind))

pub link_of_way : (old new : RealmConfig) (m l : Link) → way_before old new m ≡ Some l
    → link_before old new m ≡ Some l
link_of_way old new m l h =
    elim (cases_Bool (same_out old.realm new.realm (out_of m))) as (λ _. link_before old new m ≡ Some l) [
      | inl y ↦ rw y at h
      | inr n ↦ absurd (let k : None ≡ Some l = rw n at h in cc)
    ]

-- the same where servers may stand twice
stood_by : (ss ts : List ServerView) (make : ℕ → Link) (s : ℕ) (l : Link) (o : Option ℕ) → server_then ss ts s ≡ o
    → s < length ss → option_map make o ≡ Some l → (t : ℕ) × (make t ≡ l) × (t < length ts)
stood_by ss ts make s l None at below h = absurd (cc h)
stood_by ss ts make s l (Some t) at below h =
    let stands = stands_then ss ts s t at below in
    (t, same_Some (make t) l h, below_of ts t stands.after stands.is)

pub rest_there : (old new : RealmConfig) (m l : Link) → IsLink new m → end_place new m < server_link_count new
    → out_of m < length old.realm.out → link_before old new m ≡ Some l → IsLink old l
rest_there old new (link.Auth s out) l is below way h =
    let k = stood_by new.realm.servers old.realm.servers (λ t. link.Auth t out) s l
    (server_then new.realm.servers old.realm.servers s) refl is.0 h in
    subst (IsLink old) k.1 (k.2, way)
rest_there old new (link.Acct s out) l is below way h =
    let k = stood_by new.realm.servers old.realm.servers (λ t. link.Acct t out) s l
    (server_then new.realm.servers old.realm.servers s) refl is.0 h in
    subst (IsLink old) k.1 (k.2, way)
rest_there old new (link.Coa p out) l is below way h = absurd (omega (arith, below))
