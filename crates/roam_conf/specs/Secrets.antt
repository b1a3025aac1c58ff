-- The shared secrets of servers, peers and links; the empty list where there is none (RFC 2865, section 3).
use Rattle.std.specs.Prelude.{ℕ, ◌-◌, nat_lt, if◌then◌else◌, List, [], length, slice_get}
use Rattle.std.specs.Option.{option_map_or}
use Rattle.roam_conf.specs.declared.place.Link.{Link}
use Rattle.roam_conf.specs.declared.place.Link.TheVariants.{Auth, Acct, Coa}
use Rattle.roam_conf.specs.Config.{ServerView, CoaClientView, PeerView, RealmView, ConfigView}

-- ## Shared secret
-- That of a peer, of a realm's server or `coa_client`, and of a link, by whichever `out`: of a server's `auth` and
-- `acct` the server's, of a peer's `coa` the peer's. Where there is none it is the empty list; each configured one has
-- 1 to 64 octets, and each that a call is handed.
-- Source: RFC 2865 section 3; the limit is what HMAC-MD5 takes without hashing it first (RFC 2104 section 2),
-- that it may not have more is ours
-- Rules out: one realm's secret used for another's server; an empty secret
-- Stands in: `roam_conf` `Secrets.antt`: `server_secret`, `home_secret`, `peer_secret`, `link_secret`; the invariants
-- of `Peer`, `Server`, `CoaClient`; `secret_of_home`; `roam_wire` `Secret.antt`: `IsSecret`
--
-- the secret shared with a server of a realm; with a peer
abbrev pub server_secret : List ServerView → ℕ → List ℕ
server_secret servers server = option_map_or (λ s. s.secret) (slice_get servers server) []

abbrev pub peer_secret : List PeerView → ℕ → List ℕ
peer_secret peers peer = option_map_or (λ p. p.secret) (slice_get peers peer) []

-- the secret shared with a `coa_client` of a realm
abbrev pub client_secret : List CoaClientView → ℕ → List ℕ
client_secret clients client = option_map_or (λ c. c.secret) (slice_get clients client) []

-- the secret shared with a source of a realm's reverse requests: a server or, behind the servers, a `coa_client`; the
-- same of a realm by its index
abbrev pub home_secret : RealmView → ℕ → List ℕ
home_secret realm home =
    if nat_lt home (length realm.servers) then server_secret realm.servers home
    else client_secret realm.coa_clients (home - length realm.servers)

abbrev pub home_secret_in : ConfigView → ℕ → ℕ → List ℕ
home_secret_in config realm home = option_map_or (λ r. home_secret r home) (slice_get config.realms realm) []

-- the secret shared with a link of a realm of these servers
abbrev pub link_secret : List PeerView → List ServerView → Link → List ℕ
link_secret peers servers (Auth server out) = server_secret servers server
link_secret peers servers (Acct server out) = server_secret servers server
link_secret peers servers (Coa peer out) = peer_secret peers peer
