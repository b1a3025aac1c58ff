-- The parts that stay the same between two configurations, as far as what waits in a realm, what is held there and what
-- its ledger has depend on it: tests of the tables that stand at one number in both. Each is true of equal tables.
-- Ours.
use Rattle.std.specs.Prelude.{◌≡◌, ℕ, ◌-◌, ◌&&◌, ◌||◌, not, nat_lt, Bool, true, false, List, length, Option, Some, None, option_and_then, option_map, slice_get, if◌then◌else◌}
use Rattle.std.specs.Cmp.Lexicographic.{pointwise}
use Rattle.std.specs.List.{list_all, list_any}
use Rattle.std.specs.Option.{option_map_or}
use Rattle.std.specs.Str.{bytes_eq}
use Rattle.roam_address.specs.declared.address.Address.{Address}
use Rattle.roam_address.specs.Prefixes.{PrefixView}
use Rattle.roam_address.specs.declared.endpoint.Endpoint.{Endpoint}
use Rattle.roam_address.specs.Same.{same_address, same_prefix}
use Rattle.roam_conf.specs.Config.{CoaClientView, PeerView, RealmView, ServerView}
use Rattle.roam_conf.specs.Duplicates.{same_endpoint}
use Rattle.roam_conf.specs.Lookup.{first_place, home_with_ip, is_source_of}
use Rattle.roam_conf.specs.Secrets.{home_secret}

-- both are there and the same by a test, or neither is
abbrev pub both_or_none : {X : Type 0} → (X → X → Bool) → Option X → Option X → Bool
both_or_none same None None = true
both_or_none same (Some a) (Some b) = same a b
both_or_none same _ _ = false

-- one that was here still is
abbrev pub stays : Bool → Bool → Bool
stays was_gone is_gone = was_gone || not is_gone

abbrev pub same_values : Bool → Bool → Bool
same_values true b = b
same_values false b = not b

-- ## What stays with a peer
-- A request of a peer stays, waiting or answered, where the peer is here in both with the same `secret`, and the
-- address from which it came is still the peer's: no other peer has a longer prefix for it. Its reply goes there, and
-- is signed with that secret. What waits at its `coa` stays where `coa` and `secret` are the same. Its sessions stay
-- where it is here, whatever else changes.
-- Source: ours
-- Rules out: a reply signed with another secret than that by which the request came; one that goes to an address that
-- isn't the peer's any more; a request lost by a further address of its peer, or by another order of them; sessions
-- lost by a new secret
-- Stands in: `roam_reload` `Kept.antt`: `keeps_request`, `keeps_coa`, `stays`; `peer_keeps_secret`, `peer_keeps_coa`
--
abbrev pub keeps_secret : PeerView → PeerView → Bool
keeps_secret old new = stays old.gone new.gone && bytes_eq old.secret new.secret

-- a source that was the peer's still is
abbrev pub keeps_source : List PeerView → List PeerView → ℕ → Address → Bool
keeps_source old new peer ip = is_source_of new peer ip || not (is_source_of old peer ip)

abbrev pub keeps_coa : PeerView → PeerView → Bool
keeps_coa old new =
    stays old.gone new.gone && both_or_none same_endpoint old.coa new.coa && bytes_eq old.secret new.secret

abbrev pub keeps_sessions : PeerView → PeerView → Bool
keeps_sessions old new = stays old.gone new.gone

-- such a test of the peers that stand at a number in two lists. Where none stood there, nothing changes
abbrev pub of_peer : (PeerView → PeerView → Bool) → List PeerView → List PeerView → ℕ → Bool
of_peer test old new peer =
    option_map_or (λ before. option_map_or (test before) (slice_get new peer) false) (slice_get old peer) true

-- the requests of the peer of a number stay that came from the address
abbrev pub keeps_request : List PeerView → List PeerView → ℕ → Address → Bool
keeps_request old new peer ip = of_peer keeps_secret old new peer && keeps_source old new peer ip

-- each source that is a peer's is that peer's then too: no further peer has a longer prefix for it
abbrev pub KeepsSources : List PeerView → List PeerView → Type 0
KeepsSources old new =
    (peer : ℕ) (ip : Address) → is_source_of old peer ip ≡ true → is_source_of new peer ip ≡ true

-- each of these prefixes is one of the others
abbrev pub are_among : List PrefixView → List PrefixView → Bool
are_among others prefixes = list_all (λ prefix. list_any (same_prefix prefix) others) prefixes

-- the prefixes are the same ones, whatever their order
abbrev pub same_prefixes : List PrefixView → List PrefixView → Bool
same_prefixes a b = are_among b a && are_among a b

-- ## Same server
-- A server of a realm is the same in both where `auth`, `acct` and `secret` are equal, an absent endpoint to an absent
-- one, wherever it stands in the order; `require_seal` may differ. What waits at a server, its cursors, its rests and
-- counts, and which conversations it has, go with it.
-- Source: ours
-- Rules out: what waits at one server taken for another's, since it stands at its place; a rest lost by another order
-- Stands in: `roam_reload` `Kept.antt`: `same_server`, `server_then`; `server_then`
--
abbrev pub same_server : ServerView → ServerView → Bool
same_server a b =
    both_or_none same_endpoint a.auth b.auth && both_or_none same_endpoint a.acct b.acct && bytes_eq a.secret b.secret

-- the place where a server of the old list stands in the new one: its own, if it is the same there, else the first
abbrev pub server_then : List ServerView → List ServerView → ℕ → Option ℕ
server_then old new server =
    if both_or_none same_server (slice_get old server) (slice_get new server) then Some server
    else option_and_then (λ s. first_place (same_server s) new) (slice_get old server)

-- all servers stand where they stood
abbrev pub same_servers : List ServerView → List ServerView → Bool
same_servers old new = pointwise same_server old new

-- a source of a realm's reverse requests: its address or, of a server, those of its `auth` and of its `acct`, where it
-- has them; and the secret shared with it
pub record Source : Type 0 where
  pub ip : Option Address
  pub other_ip : Option Address
  pub secret : List ℕ

-- the address of an endpoint that may be there
abbrev pub ip_of : Option Endpoint → Option Address
ip_of endpoint = option_map (λ e. e.ip) endpoint

abbrev pub server_source : ServerView → Source
server_source s = record { ip = ip_of s.auth; other_ip = ip_of s.acct; secret = s.secret }

abbrev pub client_source : CoaClientView → Source
client_source c = record { ip = Some c.ip; other_ip = None; secret = c.secret }

abbrev pub source : RealmView → ℕ → Option Source
source realm home =
    if nat_lt home (length realm.servers) then option_map server_source (slice_get realm.servers home)
    else option_map client_source (slice_get realm.coa_clients (home - length realm.servers))

abbrev pub same_source : Source → Source → Bool
same_source a b =
    both_or_none same_address a.ip b.ip && both_or_none same_address a.other_ip b.other_ip && bytes_eq a.secret b.secret

-- a realm takes reverse requests; it does no more
abbrev pub takes_reverse : RealmView → Bool
takes_reverse realm = nat_lt 0 (length realm.reverse)

abbrev pub closes_reverse : RealmView → RealmView → Bool
closes_reverse old new = takes_reverse old && not (takes_reverse new)

-- the source at an address, if the secret shared with it is this
abbrev pub home_at : RealmView → Address → List ℕ → Option ℕ
home_at realm ip secret =
    option_and_then (λ home. if bytes_eq (home_secret realm home) secret then Some home else None)
    (home_with_ip realm ip)

-- ## Same source of reverse requests
-- The reverse requests of a source stay where under the new table its address and its secret are a source's: the one of
-- the same number, where addresses and secret are equal; else whose reverse requests come from the address from which
-- this one came, if the secret is the same. None stays where the realm takes no reverse requests any more.
-- Source: ours
-- Rules out: an answer signed with another secret than the request's; a request lost since servers stand in another
-- order
-- Stands in: `roam_reload` `Kept.antt`: `home_then`, `same_source`; `home_then`
--
abbrev pub home_then : RealmView → RealmView → Address → ℕ → Option ℕ
home_then old new ip home =
    if closes_reverse old new then None
    else if both_or_none same_source (source old home) (source new home) then Some home
    else home_at new ip (home_secret old home)

-- ## Same outgoing socket
-- What waits at a server or a peer stays where the `out` by which it was forwarded is the same endpoint, at the same
-- place of the list: only there its reply comes.
-- Source: ours
-- Rules out: a request that waits for a reply at another endpoint than it left from
-- Stands in: `roam_reload` `Kept.antt`: `same_out`, `same_outs`; `is_same_out`, `has_same_outs`
--
-- what a realm forwards by the `out` of this place leaves from the same endpoint; by each of them
abbrev pub same_out : RealmView → RealmView → ℕ → Bool
same_out old new out = both_or_none same_endpoint (slice_get old.out out) (slice_get new.out out)

abbrev pub same_outs : RealmView → RealmView → Bool
same_outs old new = pointwise same_endpoint old.out new.out

-- the ledger holds sessions told by their access servers in both, or in neither
abbrev pub same_sessions : RealmView → RealmView → Bool
same_sessions old new = same_values old.own_sessions new.own_sessions
