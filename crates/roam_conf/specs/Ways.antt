-- The endpoints that the sockets of a realm send to: those of IPv4 to those of IPv4, those of IPv6 to those of IPv6.
-- Ours.
use Rattle.std.specs.Prelude.{◌&&◌, not, ℕ, Bool, true, false, List, Option, Some, None, nat_le, slice_get, if◌then◌else◌}
use Rattle.std.specs.List.{list_all, list_any}
use Rattle.std.specs.Option.{option_map_or}
use Rattle.std.specs.Net.Addr.{is_ipv6}
use Rattle.roam_address.specs.declared.endpoint.Endpoint.{Endpoint}
use Rattle.roam_address.specs.Addresses.{ip_of}
use Rattle.roam_conf.specs.Config.{ServerView, PeerView, RealmView}

-- the port isn't 0
abbrev pub has_port : Endpoint → Bool
has_port e = nat_le 1 e.port

-- both are at addresses of IPv4, or both of IPv6
abbrev pub same_kind : Endpoint → Endpoint → Bool
same_kind a b = if is_ipv6 (ip_of a.ip) then is_ipv6 (ip_of b.ip) else not (is_ipv6 (ip_of b.ip))

-- one of the sockets sends to the endpoint
abbrev pub is_reached_at : List Endpoint → Endpoint → Bool
is_reached_at outs endpoint = list_any (λ out. same_kind out endpoint) outs

-- one of them does to what is there
abbrev pub is_reached_if_there : List Endpoint → Option Endpoint → Bool
is_reached_if_there outs endpoint = option_map_or (is_reached_at outs) endpoint true

-- the sockets send to all endpoints that the server has
abbrev pub is_reached : List Endpoint → ServerView → Bool
is_reached outs server = is_reached_if_there outs server.auth && is_reached_if_there outs server.acct

-- the socket of this place is there, and sends to the endpoint
abbrev pub is_way : List Endpoint → ℕ → Endpoint → Bool
is_way outs place endpoint = option_map_or (λ out. same_kind out endpoint) (slice_get outs place) false

-- the endpoint, where the socket of this place sends to it
abbrev pub by_way : List Endpoint → ℕ → Endpoint → Option Endpoint
by_way outs place endpoint = if is_way outs place endpoint then Some endpoint else None

-- ## Ways out
-- Each `auth` and `acct` that a realm's servers have is of the same kind, IPv4 or IPv6, as one at least of its `out`.
-- A peer whose `coa` is of a kind that none of these has is no target of the realm's reverse requests. What goes to an
-- endpoint leaves from an `out` of its kind.
-- Source: ours
-- Rules out: a server that is never reached; a reverse request that leaves at no socket
-- Stands in: `roam_conf` `Ways.antt`: `has_no_way_out`, `is_coa_reached`, `is_way`; the invariant of `Config`,
-- `is_target_of`
--
-- some realm has a server to which none of its `out` sends
unfoldable pub has_no_way_out : List RealmView → Bool
has_no_way_out realms = list_any (λ realm. not (list_all (is_reached realm.out) realm.servers)) realms

-- one of the realm's `out` sends to where the peer takes reverse requests, if it does anywhere
abbrev pub is_coa_reached : RealmView → PeerView → Bool
is_coa_reached realm peer = is_reached_if_there realm.out peer.coa
