-- The values that may not stand twice in a configuration. Ours.
use Rattle.std.specs.Prelude.{ℕ, ◌==◌, ◌&&◌, ◌||◌, not, if◌then◌else◌, Bool, false, List, [], ◌∷◌, ◌++◌, filter, Option, Some}
use Rattle.std.specs.List.{list_any, filter_map, flat_map, cons_option}
use Rattle.std.specs.Option.{option_to_list, option_map_or}
use Rattle.std.specs.Str.{bytes_eq}
use Rattle.roam_address.specs.declared.endpoint.Endpoint.{Endpoint}
use Rattle.roam_address.specs.Prefixes.{PrefixView}
use Rattle.roam_address.specs.Same.{same_address, same_prefix}
use Rattle.roam_conf.specs.Config.{ServerView, CoaClientView, PeerView, PatternView, RealmView}
use Rattle.roam_conf.specs.Operators.{same_operator_if_there}
use Rattle.roam_conf.specs.Patterns.{same_pattern, patterns_of}

-- two elements, at different places of the list, are the same by the test
abbrev pub has_pair : {X : Type 0} → (X → X → Bool) → List X → Bool
has_pair same [] = false
has_pair same (x ∷ xs) = list_any (same x) xs || has_pair same xs

-- equal addresses and equal ports
abbrev pub same_endpoint : Endpoint → Endpoint → Bool
same_endpoint a b = same_address a.ip b.ip && (a.port == b.port)

-- the endpoint is one of these
abbrev pub is_among : List Endpoint → Endpoint → Bool
is_among endpoints endpoint = list_any (same_endpoint endpoint) endpoints

-- both are there, and equal
abbrev pub same_if_there : Option (List ℕ) → Option (List ℕ) → Bool
same_if_there (Some a) (Some b) = bytes_eq a b
same_if_there _ _ = false

-- the peer is here; the prefixes of all peers that are
abbrev pub is_present : PeerView → Bool
is_present peer = not peer.gone

abbrev pub prefixes_of : PeerView → List PrefixView
prefixes_of peer = peer.ips

abbrev pub prefixes_present : List PeerView → List PrefixView
prefixes_present peers = flat_map prefixes_of (filter is_present peers)

-- equal names, NAS-IP-Addresses or NAS-IPv6-Addresses, or Operator-Names that mean the same, of two that are both here
abbrev pub same_peer : PeerView → PeerView → Bool
same_peer a b =
    not a.gone && not b.gone
    && (bytes_eq a.name b.name || same_if_there a.nas_ip b.nas_ip || same_if_there a.nas_ipv6 b.nas_ipv6
    || same_operator_if_there a.operator_name b.operator_name)

-- the texts of a peer's `nas_id` and `nas_ids`; those of all peers
abbrev pub nas_texts_of : PeerView → List (List ℕ)
nas_texts_of peer = option_to_list peer.nas_id ++ peer.nas_ids

abbrev pub nas_texts : List PeerView → List (List ℕ)
nas_texts peers = flat_map nas_texts_of peers

-- equal addresses
abbrev pub same_client : CoaClientView → CoaClientView → Bool
same_client a b = same_address a.ip b.ip

-- where the broker's own sockets of a realm are: its `out`, and its `reverse`, each one or more where it has any; one
-- that is gone has none
abbrev pub realm_endpoints : RealmView → List Endpoint
realm_endpoints realm = if realm.gone then [] else realm.out ++ realm.reverse

-- where all of them are: `auth` and `acct`, and those of each realm
abbrev pub own_endpoints : List Endpoint → List Endpoint → List RealmView → List Endpoint
own_endpoints auth acct realms = auth ++ acct ++ flat_map realm_endpoints realms

-- the endpoints of one realm's servers: of each its `auth` and its `acct`, where these are there
abbrev pub server_endpoints : List ServerView → List Endpoint
server_endpoints [] = []
server_endpoints (server ∷ servers) =
    cons_option server.auth (cons_option server.acct (server_endpoints servers))

-- the endpoints of those peers that take reverse requests
abbrev pub coa_endpoints : List PeerView → List Endpoint
coa_endpoints peers = filter_map (λ peer. peer.coa) peers

-- the endpoint is there, and one of these
abbrev pub is_there_among : List Endpoint → Option Endpoint → Bool
is_there_among endpoints endpoint = option_map_or (is_among endpoints) endpoint false

-- some server of the list is at one of these endpoints
abbrev pub some_server_at : List Endpoint → List ServerView → Bool
some_server_at endpoints servers =
    list_any (λ server. is_there_among endpoints server.auth || is_there_among endpoints server.acct) servers

-- two names, two suffixes or two `*` of all realms, and of those that are rejected, are the same
unfoldable pub has_duplicate_realm : List RealmView → List PatternView → Bool
has_duplicate_realm realms reject = has_pair same_pattern (flat_map patterns_of realms ++ reject)

-- two prefixes are the same among all of all peers that are here, also two of one peer
abbrev pub has_duplicate_prefix : List PeerView → Bool
has_duplicate_prefix peers = has_pair same_prefix (prefixes_present peers)

-- two peers are the same in one of the four, or two prefixes of peers, or two texts of `nas_id` and `nas_ids` of all
-- peers are equal
unfoldable pub has_duplicate_peer : List PeerView → Bool
has_duplicate_peer peers =
    has_pair same_peer peers || has_duplicate_prefix peers || has_pair bytes_eq (nas_texts peers)

-- two of the broker's own sockets are at one endpoint
unfoldable pub has_duplicate_endpoint : List Endpoint → List Endpoint → List RealmView → Bool
has_duplicate_endpoint auth acct realms = has_pair same_endpoint (own_endpoints auth acct realms)

-- two endpoints of one realm's servers are equal, or two addresses of its `coa_client`s; two realms may have the same
abbrev pub has_pair_of_servers : RealmView → Bool
has_pair_of_servers realm =
    has_pair same_endpoint (server_endpoints realm.servers) || has_pair same_client realm.coa_clients

unfoldable pub has_duplicate_server : List RealmView → Bool
has_duplicate_server realms = list_any has_pair_of_servers realms

-- two peers take reverse requests at one endpoint, or a peer does at a server's
unfoldable pub has_duplicate_link : List PeerView → List RealmView → Bool
has_duplicate_link peers realms =
    has_pair same_endpoint (coa_endpoints peers)
    || list_any (λ realm. some_server_at (coa_endpoints peers) realm.servers) realms
