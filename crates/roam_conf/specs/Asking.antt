-- The peers whose requests a realm takes. Ours.
use Rattle.std.specs.Prelude.{ℕ, ◌&&◌, ◌||◌, not, Bool, true, false, List, Option, Some, None, slice_get}
use Rattle.std.specs.List.{list_any}
use Rattle.std.specs.Option.{option_map_or}
use Rattle.std.specs.Str.{bytes_eq}
use Rattle.roam_address.specs.declared.endpoint.Endpoint.{Endpoint}
use Rattle.roam_address.specs.Prefixes.{PrefixView}
use Rattle.roam_address.specs.Same.{is_in}
use Rattle.roam_conf.specs.Config.{ServerView, PeerView, RealmView, ConfigView}
use Rattle.roam_conf.specs.Ways.{is_coa_reached}

-- the name is one of these, where there are any
abbrev pub is_listed : Option (List (List ℕ)) → List ℕ → Bool
is_listed None name = true
is_listed (Some names) name = list_any (bytes_eq name) names

-- the peer is one of the realm's: the realm has no list of peers, or its name stands there
abbrev pub is_peer_of : RealmView → PeerView → Bool
is_peer_of realm peer = is_listed realm.peers peer.name

-- the endpoint is there, at an address of the prefix
abbrev pub is_there_in : PrefixView → Option Endpoint → Bool
is_there_in prefix endpoint = option_map_or (λ e. is_in e.ip prefix) endpoint false

-- the prefix has the address of one of the server's endpoints, `auth` or `acct`
abbrev pub is_server_in : PrefixView → ServerView → Bool
is_server_in prefix server = is_there_in prefix server.auth || is_there_in prefix server.acct

-- one of these servers has an address in the prefix
abbrev pub some_server_in : List ServerView → PrefixView → Bool
some_server_in servers prefix = list_any (is_server_in prefix) servers

-- one of the realm's servers is at an address of the peer, by any of the peer's prefixes
abbrev pub is_at_server : RealmView → PeerView → Bool
is_at_server realm peer = list_any (some_server_in realm.servers) peer.ips

-- ## Who may ask whom
-- A realm takes Access-Requests and Accounting-Requests of a peer unless it has `peers` and the peer's name isn't among
-- them, or it has `loop_prevention` and one of its servers is at an address of the peer, whichever of the peer's
-- addresses the request came from. A reverse request goes to no peer that isn't among `peers`, and to none whose `coa`
-- is of another kind, IPv4 or IPv6, than the realm's `out`.
-- Source: ours
-- Rules out: a realm without `peers` that takes none; a request that is sent back to where it came from, or to another
-- address of the peer that sent it
-- Stands in: `roam_conf` `Asking.antt`: `takes`, `is_target_of`; `takes`, `is_target_of`
--
-- the realm takes requests of the peer
unfoldable pub takes : RealmView → PeerView → Bool
takes realm peer = is_peer_of realm peer && not (realm.loop_prevention && is_at_server realm peer)

-- a test of a realm and a peer, by their indexes; one that isn't configured passes none
abbrev pub both_pass : (RealmView → PeerView → Bool) → Option RealmView → Option PeerView → Bool
both_pass test (Some realm) (Some peer) = test realm peer
both_pass test _ _ = false

abbrev pub takes_in : ConfigView → ℕ → ℕ → Bool
takes_in config realm peer = both_pass takes (slice_get config.realms realm) (slice_get config.peers peer)

abbrev pub is_peer_in : ConfigView → ℕ → ℕ → Bool
is_peer_in config realm peer = both_pass is_peer_of (slice_get config.realms realm) (slice_get config.peers peer)

-- reverse requests of the realm may go to the peer: it is one of the realm's, and isn't where `out` sends nothing
abbrev pub is_target_of : RealmView → PeerView → Bool
is_target_of realm peer = is_peer_of realm peer && is_coa_reached realm peer

abbrev pub is_target_in : ConfigView → ℕ → ℕ → Bool
is_target_in config realm peer = both_pass is_target_of (slice_get config.realms realm) (slice_get config.peers peer)

-- no peer that is here has the name
abbrev pub is_no_peer : List PeerView → List ℕ → Bool
is_no_peer peers name = not (list_any (λ peer. not peer.gone && bytes_eq name peer.name) peers)

-- one of the names that the realm has, where it has any, is no peer's
abbrev pub names_no_peer : List PeerView → RealmView → Bool
names_no_peer peers realm = option_map_or (list_any (is_no_peer peers)) realm.peers false

-- a realm names a peer that isn't there
unfoldable pub has_unknown_peer : List PeerView → List RealmView → Bool
has_unknown_peer peers realms = list_any (names_no_peer peers) realms
