-- The sockets of each place, by their number: `auth`, `acct`, then `out` and `reverse` of each realm, where several of
-- one kind have one number; that of a `reverse` that isn't there is nobody's (ours).
use Rattle.std.specs.Prelude.{ℕ, ◌+◌, ◌*◌, ◌%◌, List, Bool, Option, None, option_and_then, slice_get, if◌then◌else◌}
use Rattle.roam_address.specs.declared.endpoint.Endpoint.{Endpoint}
use Rattle.roam_conf.specs.declared.place.Place.{Place}
use Rattle.roam_conf.specs.declared.place.Place.TheVariants as place
use Rattle.roam_conf.specs.Config.{ConfigView, RealmView}
use Rattle.roam_conf.specs.Duplicates.{own_endpoints}

-- ## Socket numbers
-- `auth` is 0, `acct` 1, `out` of realm i is 2i + 2, its `reverse` 2i + 3; where there are several of one, they have
-- one number, and each its place among them, from 0. Each is bound where the configuration says, and the number of a
-- `reverse` that isn't there is nobody's. A realm's `out` and `reverse` are served by the worker of its shard: so what
-- comes back to one socket's requests is shared by all workers, and each takes it for its own shard. `auth` is served
-- by the first worker and `acct` by the next, several of one kind from there on, modulo the number of workers; with
-- `spread` each worker has its own of each.
-- Source: ours
-- Rules out: two places with one socket; a place that is configured without one
-- Stands in: `roam_port` `Sockets.antt`: `socket_number`, `socket_endpoint`, `socket_endpoints`, `worker_number`;
-- `socket_of`, `place_of`, `endpoint_of`, `socket_numbers`, `socket_count`, `worker_of`
--
-- the number of a place's sockets
abbrev pub socket_number : Place → ℕ
socket_number (place.Auth nth) = 0
socket_number (place.Acct nth) = 1
socket_number (place.Out realm nth) = 2 * realm + 2
socket_number (place.Reverse realm nth) = 2 * realm + 3

-- which of the places of its number a place is
abbrev pub place_nth : Place → ℕ
place_nth (place.Auth nth) = nth
place_nth (place.Acct nth) = nth
place_nth (place.Out realm nth) = nth
place_nth (place.Reverse realm nth) = nth

-- where the sockets are bound, in order of their numbers
abbrev pub socket_endpoints : ConfigView → List Endpoint
socket_endpoints config = own_endpoints config.auth config.acct config.realms

-- where a realm's `out` of a place is bound; none where it is gone, or has no such `out`
abbrev pub own_out : ℕ → RealmView → Option Endpoint
own_out nth realm = if realm.gone then None else slice_get realm.out nth

-- where its `reverse` of a place is bound, where it has such a one
abbrev pub own_reverse : ℕ → RealmView → Option Endpoint
own_reverse nth realm = if realm.gone then None else slice_get realm.reverse nth

-- where the socket of a place is bound; none where the realm isn't configured, or there is no such place
abbrev pub socket_endpoint : ConfigView → Place → Option Endpoint
socket_endpoint config (place.Auth nth) = slice_get config.auth nth
socket_endpoint config (place.Acct nth) = slice_get config.acct nth
socket_endpoint config (place.Out realm nth) = option_and_then (own_out nth) (slice_get config.realms realm)
socket_endpoint config (place.Reverse realm nth) =
    option_and_then (own_reverse nth) (slice_get config.realms realm)

-- the worker that hears a place's socket, of so many: of a realm that of its shard; of `auth` and `acct` in turn, or,
-- where they are spread over the workers, the first, beside which each other has its own
abbrev pub worker_number : Bool → Place → ℕ → ℕ
worker_number spread (place.Auth nth) workers = if spread then 0 else nth % workers
worker_number spread (place.Acct nth) workers = if spread then 0 else (nth + 1) % workers
worker_number spread (place.Out realm nth) workers = realm % workers
worker_number spread (place.Reverse realm nth) workers = realm % workers
