-- The parts of the configuration that the proxy of one realm reads, and the links of that realm (ours).
use Rattle.std.specs.Prelude.{ℕ, ◌+◌, ◌*◌, ◌<◌, ◌==◌, Bool, false, List, [], ◌∷◌, length, Option, Some, None, slice_get, slice_index_or, unwrap_or, if◌then◌else◌}
use Rattle.std.specs.Option.{option_and_then, option_map_or}
use Rattle.roam_wire.specs.declared.code.TheConstants.{ACCESS_REQUEST}
use Rattle.roam_conf.specs.Config.{ConfigView, PeerView, RealmView, ServerView}
use Rattle.roam_conf.specs.Lookup.{endpoint_of, homes, out_of}
use Rattle.roam_conf.specs.Secrets as secrets
use Rattle.roam_conf.specs.Ways.{same_kind}
use Rattle.roam_conf.specs.declared.accounting.Accounting.TheVariants.{Forwarded}
use Rattle.roam_address.specs.declared.address.TheConstants.Address.{UNSPECIFIED}
use Rattle.roam_address.specs.declared.endpoint.Endpoint.{Endpoint}
use Rattle.roam_conf.specs.declared.place.Link.{Link}
use Rattle.roam_conf.specs.declared.place.Link.TheVariants as link
use Rattle.roam_pending.specs.declared.key.Requester.{Requester}
use Rattle.roam_pending.specs.declared.key.Requester.TheVariants as requester
use Rattle.roam_realm.specs.declared.service.Service.{Service}
use Rattle.roam_realm.specs.declared.service.Service.TheVariants as service

-- ## Realm view
-- The seed, the realm's index, its entry in the configuration, and all peers.
-- Source: ours
-- Rules out: behaviour that depends on another realm's configuration
-- Stands in: `roam_realm` `RealmConfig.antt`: `RealmConfig`, `realm_config`
--
-- the seed of the random words, the realm's index, its own entry, and all peers; of other realms nothing
pub record RealmConfig : Type 0 where
  pub seed : List ℕ
  pub index : ℕ
  pub realm : RealmView
  pub peers : List PeerView

-- nowhere: the endpoint of a link that isn't there
abbrev pub nowhere : Endpoint
nowhere = record { ip = UNSPECIFIED; port = 0 }

-- what stands for a realm that isn't configured: it has no servers
abbrev pub no_realm : RealmView
no_realm = record {
  gone = false;
  name = [];
  out = [];
  reverse = [];
  tries = 0;
  wait = 0;
  hold = 0;
  max_pending = 0;
  max_sessions = 0;
  also = [];
  peers = None;
  loop_prevention = false;
  accounting = Forwarded;
  request_without = [];
  reply_without = [];
  share = None;
  peer_share = None;
  own_names = false;
  conversations = false;
  by_user = false;
  own_sessions = false;
  coa_clients = [];
  rest = 0;
  rest_after = 0;
  servers = [];
}

-- what a configuration says of the realm of an index
abbrev pub realm_config : ConfigView → ℕ → RealmConfig
realm_config config index = record {
  seed = config.seed;
  index = index;
  realm = slice_index_or config.realms index no_realm;
  peers = config.peers;
}

-- the secret shared with a home server of the realm; with a peer (the empty list where there is none)
abbrev pub server_secret : RealmConfig → ℕ → List ℕ
server_secret c server = secrets.server_secret c.realm.servers server

-- with a source of its reverse requests: a server, or a `coa_client`
abbrev pub home_secret : RealmConfig → ℕ → List ℕ
home_secret c home = secrets.home_secret c.realm home

abbrev pub peer_secret : RealmConfig → ℕ → List ℕ
peer_secret c peer = secrets.peer_secret c.peers peer

-- the secret shared with a link, and with the sender of a request (RFC 2865, section 3)
abbrev pub link_secret : RealmConfig → Link → List ℕ
link_secret c l = secrets.link_secret c.peers c.realm.servers l

abbrev pub requester_secret : RealmConfig → Requester → List ℕ
requester_secret c (requester.Peer peer) = peer_secret c peer
requester_secret c (requester.Home home) = home_secret c home

-- whether a reply from a link has to have a Message-Authenticator, whatever its code: one from the
-- `auth` of a home server that requires it (which code asks for it is said where replies are checked)
abbrev pub seal_required : RealmConfig → Link → Bool
seal_required c (link.Auth server out) =
    option_map_or (λ s. s.require_seal) (slice_get c.realm.servers server) false
seal_required c (link.Acct server out) = false
seal_required c (link.Coa peer out) = false

-- the endpoint of a link
abbrev pub link_endpoint : RealmConfig → Link → Endpoint
link_endpoint c l = unwrap_or (endpoint_of c.peers c.realm l) nowhere

-- the place of a link's end among the realm's ends, by whichever `out` it is reached: the servers' `auth`, then their
-- `acct`, then the peers
abbrev pub end_place : RealmConfig → Link → ℕ
end_place c (link.Auth server out) = server
end_place c (link.Acct server out) = length c.realm.servers + server
end_place c (link.Coa peer out) = length c.realm.servers + length c.realm.servers + peer

-- how many of them are servers'
abbrev pub server_link_count : RealmConfig → ℕ
server_link_count c = length c.realm.servers + length c.realm.servers

-- the place of a link among the realm's links: at each end one for each of the realm's `out`, in their order
abbrev pub link_place : RealmConfig → Link → ℕ
link_place c l = end_place c l * length c.realm.out + out_of l

-- how many places there are
abbrev pub link_count : RealmConfig → ℕ
link_count c = (server_link_count c + length c.peers) * length c.realm.out

-- a link of the realm
abbrev pub IsLink : RealmConfig → Link → Type 0
IsLink c (link.Auth server out) = (server < length c.realm.servers) × (out < length c.realm.out)
IsLink c (link.Acct server out) = (server < length c.realm.servers) × (out < length c.realm.out)
IsLink c (link.Coa peer out) = (peer < length c.peers) × (out < length c.realm.out)

-- a sender of requests: a peer, or a source of the realm's reverse requests
abbrev pub IsRequester : RealmConfig → Requester → Type 0
IsRequester c (requester.Peer peer) = peer < length c.peers
IsRequester c (requester.Home home) = home < homes c.realm

-- a server's endpoint of a service: its `auth`, or its `acct`, if it has that; the link to it by an `out`
abbrev pub service_at : Service → ServerView → Option Endpoint
service_at service.Authentication s = s.auth
service_at service.Accounting s = s.acct

abbrev pub server_link : Service → ℕ → ℕ → Link
server_link service.Authentication server out = link.Auth server out
server_link service.Accounting server out = link.Acct server out

-- the links to an endpoint, one for each `out` that sends to it, numbered from this place on
abbrev pub ways_from : (ℕ → Link) → ℕ → List Endpoint → Endpoint → List Link
ways_from link_by place [] endpoint = []
ways_from link_by place (out ∷ outs) endpoint =
    if same_kind out endpoint
    then link_by place ∷ ways_from link_by (place + 1) outs endpoint
    else ways_from link_by (place + 1) outs endpoint

-- the same of an endpoint that may be there
abbrev pub ways_to : List Endpoint → (ℕ → Link) → Option Endpoint → List Link
ways_to outs link_by None = []
ways_to outs link_by (Some endpoint) = ways_from link_by 0 outs endpoint

-- where a peer takes reverse requests, if it is there and does; the links to it
abbrev pub coa_of : RealmConfig → ℕ → Option Endpoint
coa_of c peer = option_and_then (λ p. p.coa) (slice_get c.peers peer)

abbrev pub peer_ways : RealmConfig → ℕ → List Link
peer_ways c peer = ways_to c.realm.out (λ out. link.Coa peer out) (coa_of c peer)

-- the service of a home server that a request of this code asks for (RFC 2865 section 4, RFC 2866
-- section 4)
abbrev pub service_of : ℕ → Service
service_of code = if code == ACCESS_REQUEST then service.Authentication else service.Accounting
