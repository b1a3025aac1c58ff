-- The link that a look-up finds is one whose endpoint was asked for; where it finds none, there is none.
use Rattle.std.proofs.Common.{◌≡◌, ℕ, ◌+◌, ◌-◌, ◌≤◌, suc, Bool, true, List, [], ◌∷◌, Option, Some, None, option_map, refl, sym, ap, inl, inr, arith}
use Rattle.std.proofs.lemmas.Bool.{cases_Bool, false≢true}
use Rattle.std.proofs.lemmas.Option.{same_Some}
use Rattle.std.specs.List.{position_from, slice_get}
use Rattle.std.specs.Option.{option_or, option_and_then}
use Rattle.roam_address.specs.declared.endpoint.Endpoint.{Endpoint}
use Rattle.roam_conf.specs.declared.place.Link.{Link}
use Rattle.roam_conf.specs.declared.place.Link.TheVariants.{Auth, Acct, Coa}
use Rattle.roam_conf.specs.Config.{ServerView, PeerView, RealmView, ConfigView}
use Rattle.roam_conf.specs.Duplicates.{same_endpoint}
use Rattle.roam_conf.specs.Lookup.{end_at, end_of, endpoint_of, link_at, is_there, is_coa, first_place, link_in, endpoint_in_realm, out_of}
use Rattle.roam_conf.specs.Ways.{is_way}
use Rattle.roam_conf.proofs.EqualPartsLemmas.{endpoint_decides}

-- the place that is found holds an element that passes
record IsFound {X : Type 0} (test : X → Bool) (xs : List X) (i : ℕ) : Type 0 where
  element : X
  there : slice_get xs i ≡ Some element
  passes : test element ≡ true

later : {X : Type 0} (test : X → Bool) (x : X) (xs : List X) (n i : ℕ) → n + 1 ≤ i → IsFound test xs (i - (n + 1)) →
    IsFound test (x ∷ xs) (i - n)
later test x xs n i above found =
    let next : i - n ≡ suc (i - (n + 1)) = omega arith in
    rw next (record { element = found.element; there = found.there; passes = found.passes })

place_above : {X : Type 0} (test : X → Bool) (n : ℕ) (xs : List X) (i : ℕ) → position_from test n xs ≡ Some i → n ≤ i
place_above test n [] i is = cc
place_above test n (x ∷ xs) i is =
    elim (cases_Bool (test x)) [
      | inl yes' ↦ (let same : Some n ≡ Some i = rw yes' at is in omega (arith, same_Some n i same))
      | inr no' ↦ (let rest : position_from test (n + 1) xs ≡ Some i = rw no' at is in
          omega (arith, place_above test (n + 1) xs i rest))
    ]

place_found : {X : Type 0} (test : X → Bool) (n : ℕ) (xs : List X) (i : ℕ) → position_from test n xs ≡ Some i →
    IsFound test xs (i - n)
place_found test n [] i is = cc
place_found test n (x ∷ xs) i is =
    elim (cases_Bool (test x)) [
      | inl yes' ↦ (
          let same : Some n ≡ Some i = rw yes' at is in
          let here : i - n ≡ 0 = omega (arith, same_Some n i same) in
          rw here (record { element = x; there = refl; passes = yes' }))
      | inr no' ↦ (
          let rest : position_from test (n + 1) xs ≡ Some i = rw no' at is in
          later test x xs n i (place_above test (n + 1) xs i rest) (place_found test (n + 1) xs i rest))
    ]

first_found : {X : Type 0} (test : X → Bool) (xs : List X) (i : ℕ) → first_place test xs ≡ Some i → IsFound test xs i
first_found test xs i is =
    let same : i - 0 ≡ i = omega arith in
    rw same at (place_found test 0 xs i is)

same_is : (a e : Endpoint) → same_endpoint a e ≡ true → a ≡ e
same_is a e test = (endpoint_decides a e).0 test

there_is : (e : Endpoint) (coa : Option Endpoint) → is_there e coa ≡ true → coa ≡ Some e
there_is e None test = absurd (false≢true test)
there_is e (Some other) test = ap (λ x. Some x) (same_is other e test)

auth_found : (realm : RealmView) (peers : List PeerView) (out : ℕ) (e : Endpoint) (i : ℕ) →
    first_place (λ server. is_there e server.auth) realm.servers ≡ Some i → end_of peers realm (Auth i out) ≡ Some e
auth_found realm peers out e i is =
    let found = first_found (λ (server : ServerView). is_there e server.auth) realm.servers i is in
    rw found.there (there_is e found.element.auth found.passes)

acct_found : (realm : RealmView) (peers : List PeerView) (out : ℕ) (e : Endpoint) (i : ℕ) →
    first_place (λ server. is_there e server.acct) realm.servers ≡ Some i → end_of peers realm (Acct i out) ≡ Some e
acct_found realm peers out e i is =
    let found = first_found (λ (server : ServerView). is_there e server.acct) realm.servers i is in
    rw found.there (there_is e found.element.acct found.passes)

coa_found : (realm : RealmView) (peers : List PeerView) (out : ℕ) (e : Endpoint) (i : ℕ) →
    first_place (is_coa e) peers ≡ Some i → end_of peers realm (Coa i out) ≡ Some e
coa_found realm peers out e i is =
    let found = first_found (is_coa e) peers i is in
    rw found.there (there_is e found.element.coa found.passes)

found_by : (realm : RealmView) (peers : List PeerView) (out : ℕ) (e : Endpoint) (a b c : Option ℕ) →
    first_place (λ server. is_there e server.auth) realm.servers ≡ a →
    first_place (λ server. is_there e server.acct) realm.servers ≡ b → first_place (is_coa e) peers ≡ c →
    (link : Link) → option_or (option_map (λ i. Auth i out) a)
    (option_or (option_map (λ i. Acct i out) b) (option_map (λ i. Coa i out) c)) ≡ Some link →
    end_of peers realm link ≡ Some e
found_by realm peers out e (Some i) b c p q r link is =
    rw (← same_Some (Auth i out) link is) (auth_found realm peers out e i p)
found_by realm peers out e None (Some i) c p q r link is =
    rw (← same_Some (Acct i out) link is) (acct_found realm peers out e i q)
found_by realm peers out e None None (Some i) p q r link is =
    rw (← same_Some (Coa i out) link is) (coa_found realm peers out e i r)
found_by realm peers out e None None None p q r link is = cc

pub end_found : (peers : List PeerView) (realm : RealmView) (out : ℕ) (e : Endpoint) (link : Link) →
    end_at peers realm out e ≡ Some link → end_of peers realm link ≡ Some e
end_found peers realm out e link is = found_by realm peers out e _ _ _ refl refl refl link is

-- what is found for an `out` is a link of that one
out_by : (out : ℕ) (a b c : Option ℕ) (link : Link) → option_or (option_map (λ i. Auth i out) a)
    (option_or (option_map (λ i. Acct i out) b) (option_map (λ i. Coa i out) c)) ≡ Some link → out_of link ≡ out
out_by out (Some i) b c link is = ap out_of (sym (same_Some (Auth i out) link is))
out_by out None (Some i) c link is = ap out_of (sym (same_Some (Acct i out) link is))
out_by out None None (Some i) link is = ap out_of (sym (same_Some (Coa i out) link is))
out_by out None None None link is = cc

pub out_found : (peers : List PeerView) (realm : RealmView) (out : ℕ) (e : Endpoint) (link : Link) →
    end_at peers realm out e ≡ Some link → out_of link ≡ out
out_found peers realm out e link is = out_by out _ _ _ link is

pub link_found : (peers : List PeerView) (realm : RealmView) (out : ℕ) (e : Endpoint) (link : Link) →
    link_at peers realm out e ≡ Some link → endpoint_of peers realm link ≡ Some e
unfolding link_at
link_found peers realm out e link is =
    elim (cases_Bool (is_way realm.out out e)) [
      | inl yes' ↦ (let found : end_at peers realm out e ≡ Some link = rw yes' at is in
          rw (end_found peers realm out e link found, out_found peers realm out e link found, yes') refl)
      | inr no' ↦ (let none : None ≡ Some link = rw no' at is in cc)
    ]

-- and its packets leave from there
pub link_leaves : (peers : List PeerView) (realm : RealmView) (out : ℕ) (e : Endpoint) (link : Link) →
    link_at peers realm out e ≡ Some link → out_of link ≡ out
unfolding link_at
link_leaves peers realm out e link is =
    elim (cases_Bool (is_way realm.out out e)) [
      | inl yes' ↦ (let found : end_at peers realm out e ≡ Some link = rw yes' at is in
          out_found peers realm out e link found)
      | inr no' ↦ (let none : None ≡ Some link = rw no' at is in cc)
    ]

-- the same of a realm by its index
pub link_in_found : (config : ConfigView) (realm out : ℕ) (e : Endpoint) (link : Link) →
    link_in config realm out e ≡ Some link → endpoint_in_realm config realm link ≡ Some e
link_in_found config realm out e link is = by_realm (slice_get config.realms realm) is
  where
    by_realm : (found : Option RealmView) → option_and_then (λ r. link_at config.peers r out e) found ≡ Some link →
        option_and_then (λ r. endpoint_of config.peers r link) found ≡ Some e
    by_realm None h = cc
    by_realm (Some r) h = link_found config.peers r out e link h

pub link_in_leaves : (config : ConfigView) (realm out : ℕ) (e : Endpoint) (link : Link) →
    link_in config realm out e ≡ Some link → out_of link ≡ out
link_in_leaves config realm out e link is = by_realm (slice_get config.realms realm) is
  where
    by_realm : (found : Option RealmView) → option_and_then (λ r. link_at config.peers r out e) found ≡ Some link →
        out_of link ≡ out
    by_realm None h = cc
    by_realm (Some r) h = link_leaves config.peers r out e link h
