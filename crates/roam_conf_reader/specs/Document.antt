-- The statements of a TOML document, table by table and key by key: the configuration format. Ours.
use Rattle.std.specs.Prelude.{◌≡◌, ◌≤◌, ℕ, codes, ◌&&◌, ◌||◌, not, Bool, true, false, List, [], ◌∷◌, Option, Some, None, is_some}
use Rattle.std.specs.List.{list_any, list_all}
use Rattle.std.specs.Str.{bytes_eq}
use Rattle.toml.specs.Data.{Data, string, array, table, Items, no_items, item, Members, no_members, member, get_member}
use Rattle.roam_conf_reader.specs.declared.values.Letters.TheVariants.{Any, PeerName, RealmName}
use Rattle.roam_wire.specs.RemovedAttributes.{is_removal_in_requests, is_removal_in_replies}
use Rattle.roam_conf.specs.declared.accounting.Accounting.{Accounting}
use Rattle.roam_conf.specs.declared.accounting.Accounting.TheVariants as kinds
use Rattle.roam_conf.specs.Config.{ServerView, CoaClientView, PeerView, RealmView, ConfigView}
use Rattle.roam_conf_reader.specs.Operators.{operator_at}
use Rattle.roam_conf_reader.specs.Values.{number, letters_of, text, address, ipv4, ipv6, prefixes, endpoint, endpoints, endpoints_if_there, seed_or_zeros, flag, exchange_lines, station_word, number_or, pattern, list_of, rejects, removed, nas_ids, peer_names, accounting, balance, array_of, item_count, value_at, optional_at, file_path, socket_path}

-- the required keys of the five tables
abbrev pub server_required : List (List ℕ)
server_required = codes "secret" ∷ []

abbrev pub client_required : List (List ℕ)
client_required = codes "ip" ∷ codes "secret" ∷ []

abbrev pub peer_required : List (List ℕ)
peer_required = codes "name" ∷ codes "ip" ∷ codes "secret" ∷ []

abbrev pub realm_required : List (List ℕ)
realm_required =
    codes "name" ∷ codes "out" ∷ codes "server" ∷ []

abbrev pub top_required : List (List ℕ)
top_required =
    codes "auth" ∷ codes "acct" ∷ codes "peer" ∷ codes "realm" ∷ []

-- the keys that they may have besides; a `coa_client` none
abbrev pub server_optional : List (List ℕ)
server_optional = codes "auth" ∷ codes "acct" ∷ codes "require_seal" ∷ []

abbrev pub peer_optional : List (List ℕ)
peer_optional =
    codes "coa" ∷ codes "nas_ip" ∷ codes "nas_ipv6" ∷ codes "nas_id" ∷ codes "nas_ids" ∷ codes "require_seal"
    ∷ codes "limit_proxy_state" ∷ codes "operator_name" ∷ codes "operator_namespace" ∷ codes "ask_cui"
    ∷ codes "request_without" ∷ codes "reply_without" ∷ []

abbrev pub realm_optional : List (List ℕ)
realm_optional =
    codes "also" ∷ codes "peers" ∷ codes "loop_prevention" ∷ codes "accounting" ∷ codes "request_without"
    ∷ codes "reply_without" ∷ codes "share" ∷ codes "peer_share" ∷ codes "own_names" ∷ codes "conversations"
    ∷ codes "balance" ∷ codes "own_sessions" ∷ codes "coa_client" ∷ codes "reverse" ∷ codes "tries" ∷ codes "wait"
    ∷ codes "hold"
    ∷ codes "max_pending" ∷ codes "max_sessions" ∷ codes "rest" ∷ codes "rest_after" ∷ []

abbrev pub top_optional : List (List ℕ)
top_optional =
    codes "shards" ∷ codes "seed" ∷ codes "trace_limit" ∷ codes "max_hops" ∷ codes "max_attributes"
    ∷ codes "status_server" ∷ codes "trace_octets" ∷ codes "spread" ∷ codes "metrics"
    ∷ codes "control" ∷ codes "log_exchanges" ∷ codes "log_station" ∷ codes "state" ∷ codes "state_every"
    ∷ codes "reject" ∷ codes "well_formed" ∷ codes "answer_unnamed" ∷ codes "fresh" ∷ []

-- the key is one of these
abbrev pub is_one_of : List (List ℕ) → List ℕ → Bool
is_one_of keys key = list_any (bytes_eq key) keys

-- each key of the table is one of these
abbrev pub has_only : List (List ℕ) → List (List ℕ) → Members → Bool
has_only required optional no_members = true
has_only required optional (member key found rest) =
    (is_one_of required key || is_one_of optional key) && has_only required optional rest

-- the items are tables that state these values, one each and in this order
abbrev pub StatesEach : {V : Type 0} → (Members → V → Type 0) → Items → List V → Type 0
StatesEach States no_items [] = Unit {0}
StatesEach States (item (table members) items) (value ∷ values) = States members value × StatesEach States items values
StatesEach States _ _ = ⊥

-- the same of an array, where there is one
abbrev pub StatesTables : {V : Type 0} → (Members → V → Type 0) → Option Items → List V → Type 0
StatesTables States None values = ⊥
StatesTables States (Some items) values = StatesEach States items values

-- a server takes requests of one service at least
abbrev pub serves : ServerView → Bool
serves server = is_some server.auth || is_some server.acct

-- a table of the array `server` of a realm
pub record StatesServer (members : Members) (server : ServerView) : Type 0 where
  pub auth : optional_at endpoint (codes "auth") members ≡ Some server.auth
  pub acct : optional_at endpoint (codes "acct") members ≡ Some server.acct
  pub service : serves server ≡ true
  pub secret : value_at (text 64 (letters_of Any)) (codes "secret") members ≡ Some server.secret
  pub require_seal : flag (get_member (codes "require_seal") members) ≡ Some server.require_seal
  pub no_other_key : has_only server_required server_optional members ≡ true

-- the same of at most so many tables, and none where the array is absent
abbrev pub StatesFew : {V : Type 0} → (Members → V → Type 0) → ℕ → Option Data → List V → Type 0
StatesFew States most None values = values ≡ []
StatesFew States most (Some (array items)) values = (item_count items ≤ most) × StatesEach States items values
StatesFew States most (Some _) values = ⊥

-- a table of the array `coa_client` of a realm
pub record StatesClient (members : Members) (client : CoaClientView) : Type 0 where
  pub ip : value_at address (codes "ip") members ≡ Some client.ip
  pub secret : value_at (text 64 (letters_of Any)) (codes "secret") members ≡ Some client.secret
  pub no_other_key : has_only client_required [] members ≡ true

-- a table of the array `peer`
pub record StatesPeer (members : Members) (peer : PeerView) : Type 0 where
  pub here : peer.gone ≡ false
  pub name : value_at (text 64 (letters_of PeerName)) (codes "name") members ≡ Some peer.name
  pub ips : value_at prefixes (codes "ip") members ≡ Some peer.ips
  pub secret : value_at (text 64 (letters_of Any)) (codes "secret") members ≡ Some peer.secret
  pub coa : optional_at endpoint (codes "coa") members ≡ Some peer.coa
  pub nas_ip : optional_at ipv4 (codes "nas_ip") members ≡ Some peer.nas_ip
  pub nas_ipv6 : optional_at ipv6 (codes "nas_ipv6") members ≡ Some peer.nas_ipv6
  pub nas_id : optional_at (text 253 (letters_of Any)) (codes "nas_id") members ≡ Some peer.nas_id
  pub nas_ids : nas_ids (get_member (codes "nas_ids") members) ≡ Some peer.nas_ids
  pub require_seal : flag (get_member (codes "require_seal") members) ≡ Some peer.require_seal
  pub limit_proxy_state : flag (get_member (codes "limit_proxy_state") members) ≡ Some peer.limit_proxy_state
  pub operator_name : operator_at members ≡ Some peer.operator_name
  pub ask_cui : flag (get_member (codes "ask_cui") members) ≡ Some peer.ask_cui
  pub request_without :
      list_of (removed is_removal_in_requests) 64 (get_member (codes "request_without") members)
      ≡ Some peer.request_without
  pub reply_without :
      list_of (removed is_removal_in_replies) 64 (get_member (codes "reply_without") members) ≡ Some peer.reply_without
  pub no_other_key : has_only peer_required peer_optional members ≡ true

-- how many sessions a realm remembers where its table doesn't say it, by what that has as `reverse`: none where the
-- realm takes no reverse requests
abbrev pub sessions_unless_said : Option Data → ℕ
sessions_unless_said None = 0
sessions_unless_said (Some reverse) = 20000

-- some of these servers takes Access-Requests; Accounting-Requests
abbrev pub some_auth : List ServerView → Bool
some_auth servers = list_any (λ server. is_some server.auth) servers

abbrev pub some_acct : List ServerView → Bool
some_acct servers = list_any (λ server. is_some server.acct) servers

-- some of a realm's servers takes Access-Requests and, where its accounting is forwarded, some takes that
abbrev pub are_serving : Accounting → List ServerView → Bool
are_serving kinds.Forwarded servers = some_auth servers && some_acct servers
are_serving _ servers = some_auth servers

-- a table of the array `realm`; `wait`, `hold` and `rest` are in milliseconds
pub record StatesRealm (members : Members) (realm : RealmView) : Type 0 where
  pub here : realm.gone ≡ false
  pub name : value_at (text 253 (letters_of RealmName)) (codes "name") members ≡ Some realm.name
  pub also : list_of pattern 256 (get_member (codes "also") members) ≡ Some realm.also
  pub peers : optional_at peer_names (codes "peers") members ≡ Some realm.peers
  pub loop_prevention : flag (get_member (codes "loop_prevention") members) ≡ Some realm.loop_prevention
  pub accounting : accounting (get_member (codes "accounting") members) ≡ Some realm.accounting
  pub request_without :
      list_of (removed is_removal_in_requests) 64 (get_member (codes "request_without") members)
      ≡ Some realm.request_without
  pub reply_without :
      list_of (removed is_removal_in_replies) 64 (get_member (codes "reply_without") members) ≡ Some realm.reply_without
  pub share : optional_at (number 1 4096) (codes "share") members ≡ Some realm.share
  pub peer_share : optional_at (number 1 4096) (codes "peer_share") members ≡ Some realm.peer_share
  pub own_names : flag (get_member (codes "own_names") members) ≡ Some realm.own_names
  pub conversations : flag (get_member (codes "conversations") members) ≡ Some realm.conversations
  pub by_user : balance (get_member (codes "balance") members) ≡ Some realm.by_user
  pub own_sessions : flag (get_member (codes "own_sessions") members) ≡ Some realm.own_sessions
  pub coa_clients : StatesFew StatesClient 8 (get_member (codes "coa_client") members) realm.coa_clients
  pub out : value_at (endpoints 16) (codes "out") members ≡ Some realm.out
  pub reverse : endpoints_if_there 8 (get_member (codes "reverse") members) ≡ Some realm.reverse
  pub tries : number_or 3 1 10 (get_member (codes "tries") members) ≡ Some realm.tries
  pub wait : number_or 2000 1 60000 (get_member (codes "wait") members) ≡ Some realm.wait
  pub hold : number_or 10000 0 60000 (get_member (codes "hold") members) ≡ Some realm.hold
  pub max_pending : number_or 4096 1 4096 (get_member (codes "max_pending") members) ≡ Some realm.max_pending
  pub max_sessions :
      number_or (sessions_unless_said (get_member (codes "reverse") members)) 0 65536
      (get_member (codes "max_sessions") members) ≡ Some realm.max_sessions
  pub rest : number_or 30000 0 3600000 (get_member (codes "rest") members) ≡ Some realm.rest
  pub rest_after : number_or 3 1 256 (get_member (codes "rest_after") members) ≡ Some realm.rest_after
  pub servers : StatesTables StatesServer (value_at (array_of 8) (codes "server") members) realm.servers
  pub services : are_serving realm.accounting realm.servers ≡ true
  pub no_other_key : has_only realm_required realm_optional members ≡ true

-- ## Stated configuration
-- A text states a configuration where it is a TOML document (as the toolchain's `toml` defines it) whose tables
-- hold just the keys of the format, each with a value of its kind and range. A number that may be absent has a
-- default; of `max_sessions` it depends on whether the realm has a `reverse`. A server has an `auth`, an `acct` or
-- both; of a realm's servers one at least has an `auth`, and where its accounting is forwarded one has an `acct`.
-- Source: ours
-- Rules out: a key that is overlooked; a port with a leading zero; `*` among the names to reject; a list that takes
-- out a Proxy-State
-- Stands in: `roam_conf_reader` `Document.antt`: `StatesConfig`, `Faults.antt`: `States`; `read_config`
--
-- the whole document
pub record StatesConfig (members : Members) (config : ConfigView) : Type 0 where
  pub shards : number_or 1 1 64 (get_member (codes "shards") members) ≡ Some config.shards
  pub seed_octets : seed_or_zeros (get_member (codes "seed") members) ≡ Some config.seed
  pub auth : value_at (endpoints 8) (codes "auth") members ≡ Some config.auth
  pub acct : value_at (endpoints 8) (codes "acct") members ≡ Some config.acct
  pub trace_limit :
      number_or 100000 1 1000000 (get_member (codes "trace_limit") members) ≡ Some config.trace_limit
  pub trace_octets :
      number_or 67108864 1 1073741824 (get_member (codes "trace_octets") members) ≡ Some config.trace_octets
  pub max_hops : optional_at (number 1 100) (codes "max_hops") members ≡ Some config.max_hops
  pub max_attributes : optional_at (number 1 2000) (codes "max_attributes") members ≡ Some config.max_attributes
  pub status_server : flag (get_member (codes "status_server") members) ≡ Some config.status_server
  pub spread : flag (get_member (codes "spread") members) ≡ Some config.spread
  pub reject : rejects (get_member (codes "reject") members) ≡ Some config.reject
  pub well_formed : flag (get_member (codes "well_formed") members) ≡ Some config.well_formed
  pub answer_unnamed : flag (get_member (codes "answer_unnamed") members) ≡ Some config.answer_unnamed
  pub fresh : optional_at (number 10 3600) (codes "fresh") members ≡ Some config.fresh
  pub peers : StatesTables StatesPeer (value_at (array_of 1024) (codes "peer") members) config.peers
  pub realms : StatesTables StatesRealm (value_at (array_of 1024) (codes "realm") members) config.realms
  -- what serves isn't the broker's: here it only has to be such a value
  pub metrics : is_some (optional_at endpoint (codes "metrics") members) ≡ true
  pub control : is_some (optional_at socket_path (codes "control") members) ≡ true
  pub log_exchanges : is_some (exchange_lines (get_member (codes "log_exchanges") members)) ≡ true
  pub log_station : is_some (station_word (get_member (codes "log_station") members)) ≡ true
  pub state : is_some (optional_at file_path (codes "state") members) ≡ true
  pub state_every : is_some (number_or 60 1 86400 (get_member (codes "state_every") members)) ≡ true
  pub no_other_key : has_only top_required top_optional members ≡ true

-- each of the keys stands in the table
abbrev pub has_all : List (List ℕ) → Members → Bool
has_all keys members = list_all (λ key. is_some (get_member key members)) keys

-- some item that is a table passes the test; an item of another type isn't looked into
abbrev pub some_table : (Members → Bool) → Items → Bool
some_table test no_items = false
some_table test (item (table members) items) = test members || some_table test items
some_table test (item _ items) = some_table test items

-- the same of what a key has, if that is an array; another type isn't looked into
abbrev pub within : (Members → Bool) → Option Data → Bool
within test (Some (array items)) = some_table test items
within test _ = false

-- one of the required keys is absent from the table
abbrev pub misses : List (List ℕ) → Members → Bool
misses required members = not (has_all required members)

-- a realm's accounting is forwarded, as far as its table says: the key is absent, or has this text
unfoldable pub forwards : Option Data → Bool
forwards None = true
forwards (Some (string octets)) = bytes_eq octets (codes "forward")
forwards (Some _) = false

-- the table has a key
abbrev pub has_key : List ℕ → Members → Bool
has_key key members = is_some (get_member key members)

-- the table of a server says nowhere that it takes requests
abbrev pub is_nowhere : Members → Bool
is_nowhere members = not (has_key (codes "auth") members) && not (has_key (codes "acct") members)

-- some items are tables, and none of these has the key
abbrev pub none_has : List ℕ → Items → Bool
none_has key items = some_table (λ members. true) items && not (some_table (has_key key) items)

-- some server of a realm takes no requests, or none of them those of a service: Access-Requests or, where the realm's
-- accounting is forwarded, Accounting-Requests
abbrev pub lacks_service : Bool → Items → Bool
lacks_service forwarded items =
    some_table is_nowhere items || none_has (codes "auth") items || forwarded && none_has (codes "acct") items

-- the same of what a realm has as `server`, if that is an array
abbrev pub servers_lack : Bool → Option Data → Bool
servers_lack forwarded (Some (array items)) = lacks_service forwarded items
servers_lack forwarded _ = false

-- one of the required keys is absent from a realm's table, or from one of its servers' or of its `coa_client`s, or a
-- service from its servers
unfoldable pub realm_misses : Members → Bool
realm_misses members =
    misses realm_required members
    || within (misses server_required) (get_member (codes "server") members)
    || within (misses client_required) (get_member (codes "coa_client") members)
    || servers_lack (forwards (get_member (codes "accounting") members)) (get_member (codes "server") members)

-- the same of the document, or of a table within it
unfoldable pub document_misses : Members → Bool
document_misses members =
    misses top_required members
    || within (misses peer_required) (get_member (codes "peer") members)
    || within realm_misses (get_member (codes "realm") members)
