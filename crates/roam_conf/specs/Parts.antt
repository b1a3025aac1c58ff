-- Servers, peers and realms as plain records. Ours.
use Rattle.std.specs.Prelude.{ℕ, List, map, option_map, string_bytes, String}
use Rattle.std.specs.declared.alloc.Global.{Global}
use Rattle.std.specs.declared.vec.Vec.{Vec}
use Rattle.roam_address.specs.Prefixes.{shown_prefix}
use Rattle.roam_conf.specs.declared.coa_client.CoaClient.{CoaClient}
use Rattle.roam_conf.specs.declared.peer.Peer.{Peer}
use Rattle.roam_conf.specs.declared.realm.Realm.{Realm}
use Rattle.roam_conf.specs.declared.server.Server.{Server}
use Rattle.roam_conf.specs.Config.{ServerView, CoaClientView, PeerView, RealmView}
use Rattle.roam_conf.specs.Patterns.{shown_pattern}

abbrev pub shown_server : Server → ServerView
shown_server server = record {
  auth = server.auth;
  acct = server.acct;
  secret = server.secret;
  require_seal = server.require_seal;
}

abbrev pub shown_client : CoaClient → CoaClientView
shown_client client = record { ip = client.ip; secret = client.secret }

abbrev pub shown_names : Vec (String Global) Global → List (List ℕ)
shown_names names = map string_bytes names.items

abbrev pub shown_peer : Peer → PeerView
shown_peer peer = record {
  gone = peer.gone;
  name = string_bytes peer.name;
  ips = map shown_prefix peer.ips.items;
  secret = peer.secret;
  coa = peer.coa;
  nas_ip = peer.nas_ip;
  nas_ipv6 = peer.nas_ipv6;
  nas_id = option_map string_bytes peer.nas_id;
  nas_ids = map string_bytes peer.nas_ids.items;
  require_seal = peer.require_seal;
  limit_proxy_state = peer.limit_proxy_state;
  operator_name = option_map string_bytes peer.operator_name;
  ask_cui = peer.ask_cui;
  request_without = peer.request_without.items;
  reply_without = peer.reply_without.items;
}

abbrev pub shown_realm : Realm → RealmView
shown_realm realm = record {
  gone = realm.gone;
  name = string_bytes realm.name;
  also = map shown_pattern realm.also.items;
  peers = option_map shown_names realm.peers;
  loop_prevention = realm.loop_prevention;
  accounting = realm.accounting;
  request_without = realm.request_without.items;
  reply_without = realm.reply_without.items;
  share = realm.share;
  peer_share = realm.peer_share;
  own_names = realm.own_names;
  conversations = realm.conversations;
  by_user = realm.by_user;
  own_sessions = realm.own_sessions;
  coa_clients = map shown_client realm.coa_clients.items;
  out = realm.out.items;
  reverse = realm.reverse.items;
  tries = realm.tries;
  wait = realm.wait;
  hold = realm.hold;
  max_pending = realm.max_pending;
  max_sessions = realm.max_sessions;
  rest = realm.rest;
  rest_after = realm.rest_after;
  servers = map shown_server realm.servers.items;
}
