-- In a realm whose endpoints stand once, each link is the one that its endpoint finds.
use Rattle.std.proofs.Common.{◌≡◌, ℕ, ◌+◌, ◌<◌, ◌≤◌, suc, zero, ◌||◌, Bool, true, false, List, [], ◌∷◌, length, get_or, map, Option, Some, None, option_map, refl, sym, subst, ap, ap₂, ◌∙◌, inl, inr, arith}
use Rattle.std.proofs.lemmas.Bool.{cases_Bool, false≢true, or_parts}
use Rattle.std.proofs.lemmas.Option.{same_Some, slice_get_within, slice_get-map, slice_get_read, slice_get_past}
use Rattle.std.specs.List.{position_from, slice_get, list_any}
use Rattle.std.specs.Option.{option_or, option_and_then, option_map_or, IfSome}
use Rattle.roam_address.specs.declared.address.Address.{Address}
use Rattle.roam_address.specs.declared.endpoint.Endpoint.{Endpoint}
use Rattle.roam_conf.specs.declared.place.Link.{Link}
use Rattle.roam_conf.specs.declared.place.Link.TheVariants.{Auth, Acct, Coa}
use Rattle.roam_conf.specs.declared.realm.Realm.{Realm}
use Rattle.roam_conf.specs.Parts.{shown_realm}
use Rattle.roam_conf.specs.Config.{ServerView, CoaClientView, PeerView, RealmView, ConfigView}
use Rattle.roam_conf.specs.Duplicates.{has_pair, same_endpoint, is_among, is_there_among, server_endpoints, coa_endpoints, some_server_at, same_client, has_pair_of_servers, has_duplicate_server, has_duplicate_link}
use Rattle.roam_conf.specs.Lookup.{end_at, end_of, endpoint_of, link_at, out_of, is_there, is_coa, first_place, link_in, endpoint_in_realm, IsLinkIn, server_with_ip, client_with_ip, home_with_ip, reverse_home, home_in, homes, homes_in}
use Rattle.roam_conf.specs.Ways.{same_kind, is_way, by_way}
use Rattle.roam_conf.proofs.LinkLemmas.{end_found, out_found, link_in_found}
use Rattle.roam_conf.proofs.OneServerLemmas.{same_itself, among_more, among_first, once_more, once_first, then_source, part_of, part_apart, one_server}

-- an element of a list of which none passes a test doesn't pass it
pub none_passes : {X : Type 0} (test : X → Bool) (xs : List X) (i : ℕ) (x : X) → list_any test xs ≡ false →
    slice_get xs i ≡ Some x → test x ≡ false
none_passes test [] i x none at = cc
none_passes test (y ∷ ys) zero x none at = rw (← same_Some y x at) (or_parts (test y) (list_any test ys) none).0
none_passes test (y ∷ ys) (suc i) x none at = none_passes test ys i x (or_parts (test y) (list_any test ys) none).1 at

-- an element that passes is found, or one before it
place_exists : {X : Type 0} (test : X → Bool) (n : ℕ) (xs : List X) (i : ℕ) (x : X) → slice_get xs i ≡ Some x →
    test x ≡ true → position_from test n xs ≡ None → ⊥
place_exists test n [] i x at passes none = cc
place_exists test n (y ∷ ys) zero x at passes none =
    let same : y ≡ x = same_Some y x at in
    let here : test y ≡ true = ap test same ∙ passes in
    let some : Some n ≡ None = rw here at none in
    cc
place_exists test n (y ∷ ys) (suc i) x at passes none =
    elim (cases_Bool (test y)) [
      | inl yes' ↦ (let some : Some n ≡ None = rw yes' at none in cc)
      | inr no' ↦ (let rest : position_from test (n + 1) ys ≡ None = rw no' at none in
          place_exists test (n + 1) ys i x at passes rest)
    ]

coa_among : (peers : List PeerView) (i : ℕ) (e : Endpoint) →
    option_and_then (λ p. p.coa) (slice_get peers i) ≡ Some e → is_among (coa_endpoints peers) e ≡ true
coa_among [] i e at = cc
coa_among (p ∷ ps) zero e at = among_first e p.coa (coa_endpoints ps) at
coa_among (p ∷ ps) (suc i) e at = among_more e p.coa (coa_endpoints ps) (coa_among ps i e at)

one_coa : (peers : List PeerView) (i j : ℕ) (e : Endpoint) → has_pair same_endpoint (coa_endpoints peers) ≡ false →
    option_and_then (λ p. p.coa) (slice_get peers i) ≡ Some e →
    option_and_then (λ p. p.coa) (slice_get peers j) ≡ Some e → i ≡ j
one_coa [] i j e once p q = cc
one_coa (x ∷ xs) zero zero e once p q = refl
one_coa (x ∷ xs) zero (suc j) e once p q =
    absurd (false≢true (sym (once_first e x.coa (coa_endpoints xs) p once) ∙ coa_among xs j e q))
one_coa (x ∷ xs) (suc i) zero e once p q =
    absurd (false≢true (sym (once_first e x.coa (coa_endpoints xs) q once) ∙ coa_among xs i e p))
one_coa (x ∷ xs) (suc i) (suc j) e once p q = ap suc (one_coa xs i j e (once_more x.coa (coa_endpoints xs) once) p q)

-- what stands once among the links of a realm
record StandsOnce (peers : List PeerView) (servers : List ServerView) : Type 0 where
  of_servers : has_pair same_endpoint (server_endpoints servers) ≡ false
  of_peers : has_pair same_endpoint (coa_endpoints peers) ≡ false
  apart : some_server_at (coa_endpoints peers) servers ≡ false

-- no server's endpoint is a peer's
server_no_coa : (peers : List PeerView) (servers : List ServerView) (k : Bool) (i j : ℕ) (e : Endpoint) →
    StandsOnce peers servers → option_and_then (part_of k) (slice_get servers i) ≡ Some e →
    option_and_then (λ p. p.coa) (slice_get peers j) ≡ Some e → ⊥
server_no_coa peers servers k i j e once p q =
    let source = then_source (part_of k) (slice_get servers i) e p in
    let apart = none_passes (λ (server : ServerView). is_there_among (coa_endpoints peers) server.auth
    || is_there_among (coa_endpoints peers) server.acct) servers i source.0 once.apart source.1 in
    false≢true (sym (part_apart (coa_endpoints peers) k source.0 e source.2 apart) ∙ coa_among peers j e q)

-- two links of a realm with one endpoint, by one `out`, are one link
one_link : (peers : List PeerView) (realm : RealmView) (e : Endpoint) (a b : Link) → StandsOnce peers realm.servers →
    end_of peers realm a ≡ Some e → end_of peers realm b ≡ Some e → out_of a ≡ out_of b → a ≡ b
one_link peers realm e (Auth i out) (Auth j out') once p q by =
    ap₂ (λ n o. Auth n o) (one_server realm.servers true true i j e once.of_servers p q).0 by
one_link peers realm e (Auth i out) (Acct j out') once p q by =
    absurd (false≢true (sym (one_server realm.servers true false i j e once.of_servers p q).1))
one_link peers realm e (Auth i out) (Coa j out') once p q by =
    absurd (server_no_coa peers realm.servers true i j e once p q)
one_link peers realm e (Acct i out) (Auth j out') once p q by =
    absurd (false≢true (one_server realm.servers false true i j e once.of_servers p q).1)
one_link peers realm e (Acct i out) (Acct j out') once p q by =
    ap₂ (λ n o. Acct n o) (one_server realm.servers false false i j e once.of_servers p q).0 by
one_link peers realm e (Acct i out) (Coa j out') once p q by =
    absurd (server_no_coa peers realm.servers false i j e once p q)
one_link peers realm e (Coa i out) (Auth j out') once p q by =
    absurd (server_no_coa peers realm.servers true j i e once q p)
one_link peers realm e (Coa i out) (Acct j out') once p q by =
    absurd (server_no_coa peers realm.servers false j i e once q p)
one_link peers realm e (Coa i out) (Coa j out') once p q by =
    ap₂ (λ n o. Coa n o) (one_coa peers i j e once.of_peers p q) by

-- the endpoint of a link is its end's, and its `out` sends there
way_is : (outs : List Endpoint) (k : ℕ) (e f : Endpoint) → by_way outs k e ≡ Some f →
    (e ≡ f) × (is_way outs k e ≡ true)
way_is outs k e f is =
    elim (cases_Bool (is_way outs k e)) [
      | inl yes' ↦ (let some : Some e ≡ Some f = rw yes' at is in (same_Some e f some, yes'))
      | inr no' ↦ (let none : None ≡ Some f = rw no' at is in cc)
    ]

pub ends_there : (outs : List Endpoint) (k : ℕ) (f : Endpoint) (found : Option Endpoint) →
    option_and_then (by_way outs k) found ≡ Some f → (found ≡ Some f) × (is_way outs k f ≡ true)
ends_there outs k f None is = cc
ends_there outs k f (Some e) is =
    let way = way_is outs k e f is in
    (ap (λ x. Some x) way.0, subst (λ x. is_way outs k x ≡ true) way.0 way.1)

way_within : (outs : List Endpoint) (k : ℕ) (e : Endpoint) → is_way outs k e ≡ true → k < length outs
way_within outs k e is = by_found (slice_get outs k) refl is
  where
    by_found : (found : Option Endpoint) → slice_get outs k ≡ found →
        option_map_or (λ out. same_kind out e) found false ≡ true → k < length outs
    by_found None at h = absurd (false≢true h)
    by_found (Some out) at h = slice_get_within outs k out at

-- where a link has the endpoint, one is found
coa_is : (e : Endpoint) (coa : Option Endpoint) → coa ≡ Some e → is_there e coa ≡ true
coa_is e None is = cc
coa_is e (Some other) is = let same : other ≡ e = same_Some other e is in rw same (same_itself e)

peer_at : (peers : List PeerView) (i : ℕ) (e : Endpoint) (found : Option PeerView) → slice_get peers i ≡ found →
    option_and_then (λ p. p.coa) found ≡ Some e → first_place (is_coa e) peers ≡ None → ⊥
peer_at peers i e None at is none = cc
peer_at peers i e (Some p) at is none = place_exists (is_coa e) 0 peers i p at (coa_is e p.coa is) none

none_at : (peers : List PeerView) (realm : RealmView) (e : Endpoint) (link : Link) →
    end_of peers realm link ≡ Some e → first_place (λ server. is_there e server.auth) realm.servers ≡ None
    → first_place (λ server. is_there e server.acct) realm.servers ≡ None → first_place (is_coa e) peers ≡ None → ⊥
none_at peers realm e (Auth i out) is p q r =
    let source = then_source (λ (s : ServerView). s.auth) (slice_get realm.servers i) e is in
    place_exists (λ (server : ServerView). is_there e server.auth) 0 realm.servers i source.0 source.1
    (rw source.2 (same_itself e)) p
none_at peers realm e (Acct i out) is p q r =
    let source = then_source (λ (s : ServerView). s.acct) (slice_get realm.servers i) e is in
    place_exists (λ (server : ServerView). is_there e server.acct) 0 realm.servers i source.0 source.1
    (coa_is e source.0.acct source.2) q
none_at peers realm e (Coa i out) is p q r = peer_at peers i e (slice_get peers i) refl is r

some_link : (peers : List PeerView) (realm : RealmView) (out : ℕ) (e : Endpoint) (link : Link) →
    end_of peers realm link ≡ Some e → (a b c : Option ℕ) →
    first_place (λ server. is_there e server.auth) realm.servers ≡ a →
    first_place (λ server. is_there e server.acct) realm.servers ≡ b → first_place (is_coa e) peers ≡ c → (l : Link)
    × (option_or (option_map (λ i. Auth i out) a)
    (option_or (option_map (λ i. Acct i out) b) (option_map (λ i. Coa i out) c)) ≡ Some l)
some_link peers realm out e link is (Some i) b c p q r = (Auth i out, refl)
some_link peers realm out e link is None (Some i) c p q r = (Acct i out, refl)
some_link peers realm out e link is None None (Some i) p q r = (Coa i out, refl)
some_link peers realm out e link is None None None p q r = absurd (none_at peers realm e link is p q r)

some_end_at : (peers : List PeerView) (realm : RealmView) (out : ℕ) (e : Endpoint) (link : Link) →
    end_of peers realm link ≡ Some e → (l : Link) × (end_at peers realm out e ≡ Some l)
some_end_at peers realm out e link is = some_link peers realm out e link is _ _ _ refl refl refl

link_is_found : (peers : List PeerView) (realm : RealmView) (e : Endpoint) (link : Link) →
    StandsOnce peers realm.servers → endpoint_of peers realm link ≡ Some e →
    link_at peers realm (out_of link) e ≡ Some link
unfolding link_at
link_is_found peers realm e link once is =
    let ending = ends_there realm.out (out_of link) e (end_of peers realm link) is in
    let found = some_end_at peers realm (out_of link) e link ending.0 in
    let one : found.0 ≡ link = one_link peers realm e found.0 link once
    (end_found peers realm (out_of link) e found.0 found.1) ending.0
    (out_found peers realm (out_of link) e found.0 found.1) in
    rw ending.1 (found.1 ∙ ap (λ l. Some l) one)

-- a realm of a configuration in which no server and no link stands twice
once_in : (config : ConfigView) (realm : ℕ) (r : RealmView) → has_duplicate_server config.realms ≡ false →
    has_duplicate_link config.peers config.realms ≡ false → slice_get config.realms realm ≡ Some r →
    StandsOnce config.peers r.servers
unfolding has_duplicate_server has_duplicate_link
once_in config realm r servers links at =
    let parts = or_parts (has_pair same_endpoint (coa_endpoints config.peers))
    (list_any (λ (x : RealmView). some_server_at (coa_endpoints config.peers) x.servers) config.realms) links in
    record {
      of_servers = (or_parts (has_pair same_endpoint (server_endpoints r.servers))
          (has_pair same_client r.coa_clients) (none_passes has_pair_of_servers config.realms realm r servers at)).0;
      of_peers = parts.0;
      apart = none_passes (λ (x : RealmView). some_server_at (coa_endpoints config.peers) x.servers) config.realms
          realm r parts.1 at;
    }

pub link_in_is_found : (config : ConfigView) (realm : ℕ) (e : Endpoint) (link : Link) →
    has_duplicate_server config.realms ≡ false → has_duplicate_link config.peers config.realms ≡ false →
    endpoint_in_realm config realm link ≡ Some e → link_in config realm (out_of link) e ≡ Some link
link_in_is_found config realm e link servers links is = by_realm (slice_get config.realms realm) refl is
  where
    by_realm : (found : Option RealmView) → slice_get config.realms realm ≡ found →
        option_and_then (λ r. endpoint_of config.peers r link) found ≡ Some e →
        option_and_then (λ r. link_at config.peers r (out_of link) e) found ≡ Some link
    by_realm None at is = cc
    by_realm (Some r) at is = link_is_found config.peers r e link (once_in config realm r servers links at) is

peer_there : (peers : List PeerView) (i : ℕ) (e : Endpoint) (found : Option PeerView) → slice_get peers i ≡ found →
    option_and_then (λ p. p.coa) found ≡ Some e → i < length peers
peer_there peers i e None at is = cc
peer_there peers i e (Some p) at is = slice_get_within peers i p at

-- what a link that is found names is there
pub link_in_bound : (config : ConfigView) (realm out : ℕ) (e : Endpoint) (link : Link) →
    link_in config realm out e ≡ Some link → IsLinkIn config realm link
link_in_bound config realm out e link is =
    by_link (slice_get config.realms realm) refl link (link_in_found config realm out e link is)
  where
    by_link : (found : Option RealmView) → slice_get config.realms realm ≡ found → (link : Link) →
        option_and_then (λ r. endpoint_of config.peers r link) found ≡ Some e → IsLinkIn config realm link
    by_link None at link is = cc
    by_link (Some r) at (Auth i k) is =
        let ending = ends_there r.out k e _ is in
        let source = then_source (λ (s : ServerView). s.auth) (slice_get r.servers i) e ending.0 in
        rw at (slice_get_within r.servers i source.0 source.1, way_within r.out k e ending.1)
    by_link (Some r) at (Acct i k) is =
        let ending = ends_there r.out k e _ is in
        let source = then_source (λ (s : ServerView). s.acct) (slice_get r.servers i) e ending.0 in
        rw at (slice_get_within r.servers i source.0 source.1, way_within r.out k e ending.1)
    by_link (Some r) at (Coa i k) is =
        let ending = ends_there r.out k e _ is in
        rw at (peer_there config.peers i e (slice_get config.peers i) refl ending.0, way_within r.out k e ending.1)

-- a place that is found lies within the list
place_within : {X : Type 0} (test : X → Bool) (n : ℕ) (xs : List X) (i : ℕ) → position_from test n xs ≡ Some i →
    i < n + length xs
place_within test n [] i is = cc
place_within test n (x ∷ xs) i is =
    elim (cases_Bool (test x)) [
      | inl yes' ↦ (let same : Some n ≡ Some i = rw yes' at is in omega (arith, same_Some n i same))
      | inr no' ↦ (let rest : position_from test (n + 1) xs ≡ Some i = rw no' at is in
          omega (arith, place_within test (n + 1) xs i rest))
    ]

-- a source that is found is one of the realm's servers, or of its further sources behind them
server_bound : (servers : List ServerView) (ip : Address) (i : ℕ) → server_with_ip servers ip ≡ Some i →
    i < length servers
unfolding server_with_ip
server_bound servers ip i is = let within = place_within _ 0 servers i is in omega arith

client_bound : (clients : List CoaClientView) (ip : Address) (k : ℕ) → client_with_ip clients ip ≡ Some k →
    k < length clients
unfolding client_with_ip
client_bound clients ip k is = let within = place_within _ 0 clients k is in omega arith

home_bound : (r : RealmView) (ip : Address) (i : ℕ) (server client : Option ℕ) → server_with_ip r.servers ip ≡ server →
    client_with_ip r.coa_clients ip ≡ client →
    option_or server (option_map (λ k. length r.servers + k) client) ≡ Some i → i < homes r
home_bound r ip i (Some j) client at behind is =
    omega (arith, server_bound r.servers ip j at, same_Some j i is)
home_bound r ip i None (Some k) at behind is =
    omega (arith, client_bound r.coa_clients ip k behind, same_Some (length r.servers + k) i is)
home_bound r ip i None None at behind is = cc

pub home_in_bound : (config : ConfigView) (realm place : ℕ) (ip : Address) (i : ℕ) →
    home_in config realm place ip ≡ Some i → i < homes_in config realm
home_in_bound config realm place ip i is = by_realm (slice_get config.realms realm) refl is
  where
    by_reverse : (reverse : Option Endpoint) (r : RealmView) →
        option_and_then (λ own. home_with_ip r ip) reverse ≡ Some i → i < homes r
    by_reverse None r is = cc
    by_reverse (Some own) r is = home_bound r ip i _ _ refl refl is

    by_realm : (found : Option RealmView) → slice_get config.realms realm ≡ found →
        option_and_then (λ r. reverse_home r place ip) found ≡ Some i → i < homes_in config realm
    by_realm None at is = cc
    by_realm (Some r) at is = rw at (by_reverse (slice_get r.reverse place) r is)

-- the same of what a look-up gave
pub link_in_bounds : (config : ConfigView) (realm out : ℕ) (e : Endpoint) (found : Option Link) →
    found ≡ link_in config realm out e → IfSome found (IsLinkIn config realm)
link_in_bounds config realm out e None is = tt
link_in_bounds config realm out e (Some link) is = link_in_bound config realm out e link (sym is)

pub home_in_bounds : (config : ConfigView) (realm place : ℕ) (ip : Address) (found : Option ℕ) →
    found ≡ home_in config realm place ip → IfSome found (λ home. home < homes_in config realm)
home_in_bounds config realm place ip None is = tt
home_in_bounds config realm place ip (Some i) is = home_in_bound config realm place ip i (sym is)

-- a realm by its index, as it is shown
pub realm_there : (realms : List Realm) (i : ℕ) (realm : Realm) → i < length realms → realm ≡ get_or realms i realm →
    slice_get (map shown_realm realms) i ≡ Some (shown_realm realm)
realm_there realms i realm within is =
    slice_get-map shown_realm realms i
    ∙ ap (option_map shown_realm) (slice_get_read realms (length realms) i realm refl within is)

pub realm_absent : (realms : List Realm) (i : ℕ) → length realms ≤ i → slice_get (map shown_realm realms) i ≡ None
realm_absent realms i past = slice_get-map shown_realm realms i
    ∙ ap (option_map shown_realm) (slice_get_past realms i past)
