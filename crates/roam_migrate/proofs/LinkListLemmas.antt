-- The links of a realm stand in the order of their places, and what stands at the places of all is a list by them.
use Rattle.std.proofs.Common.{◌≡◌, ℕ, suc, ◌+◌, ◌*◌, ◌<◌, List, [], ◌∷◌, ◌++◌, length, map, drop, get_or, refl, sym, ap, subst, ◌∙◌, arith, drop-cons}
use Rattle.std.proofs.lemmas.List.{drop_all, length-append}
use Rattle.roam_address.specs.declared.endpoint.Endpoint.{Endpoint}
use Rattle.roam_conf.specs.Config.{PeerView, ServerView}
use Rattle.roam_conf.specs.declared.place.Link.{Link}
use Rattle.roam_conf.specs.declared.place.Link.TheVariants as link
use Rattle.roam_realm.specs.RealmConfig.{IsLink, RealmConfig, end_place, link_count, link_place, server_link, server_link_count}
use Rattle.roam_realm.specs.declared.service.Service.{Service}
use Rattle.roam_realm.specs.declared.service.Service.TheVariants as service
use Rattle.roam_migrate.proofs.LinkPlaceLemmas.{IsFirst}
use Rattle.roam_migrate.specs.Reload.{all_server_links, by_each, links_of, peer_links, server_ends, server_links_of}

-- ---- links stand in the order of their places

abbrev pub StandFrom : (Link → Type 0) → (Link → ℕ) → ℕ → List Link → Type 0
StandFrom Is place k [] = Unit {0}
StandFrom Is place k (l ∷ ls) = Is l × (place l ≡ k) × StandFrom Is place (suc k) ls

module _ (Is : Link → Type 0) (place : Link → ℕ) where
  stand_both : (k j : ℕ) (xs ys : List Link) → StandFrom Is place k xs → j ≡ k + length xs → StandFrom Is place j ys
      → StandFrom Is place k (xs ++ ys)
  stand_both k j [] ys h at rest =
      let same : j ≡ k = omega (arith, at) in subst (λ (n : ℕ). StandFrom Is place n ys) same rest
  stand_both k j (x ∷ xs) ys h at rest = (h.0, h.1, stand_both (suc k) j xs ys h.2 (omega (arith, at)) rest)

  -- those to one end, one for each of some `out`
  each_stand : (count start : ℕ) (link_by : ℕ → Link) (out k : ℕ) (outs : List Endpoint) → out + length outs ≡ count
      → k ≡ start + out → ((o : ℕ) → o < count → Is (link_by o) × (place (link_by o) ≡ start + o))
      → StandFrom Is place k (by_each link_by out outs)
  each_stand count start link_by out k [] all at each = tt
  each_stand count start link_by out k (o ∷ os) all at each =
      let here = each out (omega (arith, all)) in (
        here.0,
        here.1 ∙ sym at,
        each_stand count start link_by (out + 1) (suc k) os (omega (arith, all))
            (omega (arith, at)) each,
      )

each_number : (link_by : ℕ → Link) (out : ℕ) (outs : List Endpoint) → length (by_each link_by out outs) ≡ length outs
each_number link_by out [] = refl
each_number link_by out (o ∷ os) = ap suc (each_number link_by (out + 1) os)

-- all links to one end stand together
end_stands : (c : RealmConfig) (link_by : ℕ → Link) (end k : ℕ) → k ≡ end * length c.realm.out
    → ((o : ℕ) → o < length c.realm.out → IsLink c (link_by o))
    → ((o : ℕ) → link_place c (link_by o) ≡ end * length c.realm.out + o)
    → StandFrom (IsLink c) (link_place c) k (by_each link_by 0 c.realm.out)
end_stands c link_by end k at is place =
    each_stand (IsLink c) (link_place c) (length c.realm.out) (end * length c.realm.out) link_by 0 k c.realm.out
    (omega arith) (omega (arith, at)) (λ o way. (is o way, place o))

module _ (c : RealmConfig) where
  auths_stand : (k j : ℕ) (ss : List ServerView) → k + length ss ≡ length c.realm.servers
      → j ≡ k * length c.realm.out
      → StandFrom (IsLink c) (link_place c) j (all_server_links c.realm.out service.Authentication k ss)
  auths_stand k j [] all at = tt
  auths_stand k j (s ∷ ss) all at =
      stand_both (IsLink c) (link_place c) j (j + length c.realm.out)
      (by_each (server_link service.Authentication k) 0 c.realm.out)
      (all_server_links c.realm.out service.Authentication (k + 1) ss)
      (end_stands c (server_link service.Authentication k) k j at (λ o way. (omega (arith, all), way)) (λ o. refl))
      (omega (arith, each_number (server_link service.Authentication k) 0 c.realm.out))
      (auths_stand (k + 1) (j + length c.realm.out) ss (omega (arith, all)) (omega (arith, at)))

  accts_stand : (k j : ℕ) (ss : List ServerView) → k + length ss ≡ length c.realm.servers
      → j ≡ (length c.realm.servers + k) * length c.realm.out
      → StandFrom (IsLink c) (link_place c) j (all_server_links c.realm.out service.Accounting k ss)
  accts_stand k j [] all at = tt
  accts_stand k j (s ∷ ss) all at =
      stand_both (IsLink c) (link_place c) j (j + length c.realm.out)
      (by_each (server_link service.Accounting k) 0 c.realm.out)
      (all_server_links c.realm.out service.Accounting (k + 1) ss)
      (end_stands c (server_link service.Accounting k) (length c.realm.servers + k) j at
      (λ o way. (omega (arith, all), way)) (λ o. refl))
      (omega (arith, each_number (server_link service.Accounting k) 0 c.realm.out))
      (accts_stand (k + 1) (j + length c.realm.out) ss (omega (arith, all)) (omega (arith, at)))

  coas_stand : (k j : ℕ) (ps : List PeerView) → k + length ps ≡ length c.peers
      → j ≡ (server_link_count c + k) * length c.realm.out
      → StandFrom (IsLink c) (link_place c) j (peer_links c.realm.out k ps)
  unfolding peer_links
  coas_stand k j [] all at = tt
  coas_stand k j (p ∷ ps) all at =
      stand_both (IsLink c) (link_place c) j (j + length c.realm.out)
      (by_each (λ out. link.Coa k out) 0 c.realm.out) (peer_links c.realm.out (k + 1) ps)
      (end_stands c (λ out. link.Coa k out) (server_link_count c + k) j at
      (λ o way. (omega (arith, all), way)) (λ o. refl))
      (omega (arith, each_number (λ out. link.Coa k out) 0 c.realm.out))
      (coas_stand (k + 1) (j + length c.realm.out) ps (omega (arith, all)) (omega (arith, at)))

servers_number : (outs : List Endpoint) (which : Service) (k : ℕ) (ss : List ServerView)
    → length (all_server_links outs which k ss) ≡ length ss * length outs
servers_number outs which k [] = omega arith
servers_number outs which k (s ∷ ss) =
    omega (
      arith,
      length-append (by_each (server_link which k) 0 outs) (all_server_links outs which (k + 1) ss),
      each_number (server_link which k) 0 outs,
      servers_number outs which (k + 1) ss,
    )

peers_number : (outs : List Endpoint) (k : ℕ) (ps : List PeerView)
    → length (peer_links outs k ps) ≡ length ps * length outs
unfolding peer_links
peers_number outs k [] = omega arith
peers_number outs k (p ∷ ps) =
    omega (
      arith,
      length-append (by_each (λ out. link.Coa k out) 0 outs) (peer_links outs (k + 1) ps),
      each_number (λ out. link.Coa k out) 0 outs,
      peers_number outs (k + 1) ps,
    )

both_number : (c : RealmConfig) → length (all_server_links c.realm.out service.Authentication 0 c.realm.servers
    ++ all_server_links c.realm.out service.Accounting 0 c.realm.servers) ≡ server_link_count c * length c.realm.out
both_number c =
    omega (
      arith,
      length-append (all_server_links c.realm.out service.Authentication 0 c.realm.servers)
          (all_server_links c.realm.out service.Accounting 0 c.realm.servers),
      servers_number c.realm.out service.Authentication 0 c.realm.servers,
      servers_number c.realm.out service.Accounting 0 c.realm.servers,
    )

pub links_stand : (c : RealmConfig) → StandFrom (IsLink c) (link_place c) 0 (links_of c)
links_stand c =
    let outs = c.realm.out in
    let auths = all_server_links outs service.Authentication 0 c.realm.servers in
    let accts = all_server_links outs service.Accounting 0 c.realm.servers in
    stand_both (IsLink c) (link_place c) 0 (server_link_count c * length outs) (auths ++ accts)
    (peer_links outs 0 c.peers)
    (stand_both (IsLink c) (link_place c) 0 (length c.realm.servers * length outs) auths accts
    (auths_stand c 0 0 c.realm.servers (omega arith) (omega arith))
    (omega (arith, servers_number outs service.Authentication 0 c.realm.servers))
    (accts_stand c 0 (length c.realm.servers * length outs) c.realm.servers (omega arith) (omega arith)))
    (omega (arith, both_number c))
    (coas_stand c 0 (server_link_count c * length outs) c.peers (omega arith) (omega arith))

pub links_number : (c : RealmConfig) → length (links_of c) ≡ link_count c
links_number c =
    omega (
      arith,
      length-append (all_server_links c.realm.out service.Authentication 0 c.realm.servers
          ++ all_server_links c.realm.out service.Accounting 0 c.realm.servers) (peer_links c.realm.out 0 c.peers),
      both_number c,
      peers_number c.realm.out 0 c.peers,
    )

-- ---- the servers' ends stand in the order of their places

module _ (c : RealmConfig) where
  auth_ends_stand : (k j : ℕ) (ss : List ServerView) → k + length ss ≡ length c.realm.servers → j ≡ k
      → StandFrom (IsFirst c) (end_place c) j (server_ends service.Authentication k ss)
  auth_ends_stand k j [] all at = tt
  auth_ends_stand k j (s ∷ ss) all at = (
    record { end = omega (arith, all); way = refl },
    sym at,
    auth_ends_stand (k + 1) (suc j) ss (omega (arith, all)) (omega (arith, at)),
  )

  acct_ends_stand : (k j : ℕ) (ss : List ServerView) → k + length ss ≡ length c.realm.servers
      → j ≡ length c.realm.servers + k
      → StandFrom (IsFirst c) (end_place c) j (server_ends service.Accounting k ss)
  acct_ends_stand k j [] all at = tt
  acct_ends_stand k j (s ∷ ss) all at = (
    record { end = omega (arith, all); way = refl },
    sym at,
    acct_ends_stand (k + 1) (suc j) ss (omega (arith, all)) (omega (arith, at)),
  )

ends_number : (which : Service) (k : ℕ) (ss : List ServerView) → length (server_ends which k ss) ≡ length ss
ends_number which k [] = refl
ends_number which k (s ∷ ss) = ap suc (ends_number which (k + 1) ss)

pub server_links_stand : (c : RealmConfig) → StandFrom (IsFirst c) (end_place c) 0 (server_links_of c)
server_links_stand c =
    stand_both (IsFirst c) (end_place c) 0 (length c.realm.servers)
    (server_ends service.Authentication 0 c.realm.servers) (server_ends service.Accounting 0 c.realm.servers)
    (auth_ends_stand c 0 0 c.realm.servers (omega arith) refl)
    (omega (arith, ends_number service.Authentication 0 c.realm.servers))
    (acct_ends_stand c 0 (length c.realm.servers) c.realm.servers (omega arith) (omega arith))

pub server_links_number : (c : RealmConfig) → length (server_links_of c) ≡ server_link_count c
server_links_number c =
    omega (
      arith,
      length-append (server_ends service.Authentication 0 c.realm.servers)
          (server_ends service.Accounting 0 c.realm.servers),
      ends_number service.Authentication 0 c.realm.servers,
      ends_number service.Accounting 0 c.realm.servers,
    )

-- what stands at their places is a list by them
module _ {X : Type 0} (Is : Link → Type 0) (place : Link → ℕ) (f : Link → X) (d : X) (xs : List X) where
  from_place : (k : ℕ) (ls : List Link) → StandFrom Is place k ls → length xs ≡ k + length ls
      → ((l : Link) → Is l → place l < length xs → get_or xs (place l) d ≡ f l)
      → drop k xs ≡ map f ls
  from_place k [] stand count at = drop_all k xs (omega (arith, count))
  from_place k (l ∷ ls) stand count at =
      let below : k < length xs = omega (arith, count) in
      let here : get_or xs k d ≡ f l =
      ap (λ (n : ℕ). get_or xs n d) (sym stand.1)
      ∙ at l stand.0 (omega (arith, count, stand.1)) in
      let rest : drop (suc k) xs ≡ map f ls = from_place (suc k) ls stand.2 (omega (arith, count)) at in
      drop-cons xs k d below ∙ ap (λ (x : X). x ∷ drop (suc k) xs) here ∙ ap (λ (r : List X). f l ∷ r) rest

  pub by_links : (ls : List Link) → StandFrom Is place 0 ls → length xs ≡ length ls
      → ((l : Link) → Is l → place l < length xs → get_or xs (place l) d ≡ f l)
      → xs ≡ map f ls
  by_links ls stand count at = from_place 0 ls stand (omega (arith, count)) at
