-- Look-ups in a configuration. Ours.
use Rattle.std.specs.Prelude.{◌≡◌, ◌≢◌, ℕ, ◌+◌, ◌<◌, ◌==◌, ◌||◌, ◌&&◌, not, nat_lt, if◌then◌else◌, Bool, false, List, [], ◌∷◌, ◌++◌, length, map, Option, Some, None, option_map, option_and_then, slice_get}
use Rattle.std.specs.List.{list_any, position_from}
use Rattle.std.specs.Option.{option_or, option_map_or}
use Rattle.roam_address.specs.declared.address.Address.{Address}
use Rattle.roam_address.specs.declared.endpoint.Endpoint.{Endpoint}
use Rattle.roam_address.specs.Same.{same_address, is_longest}
use Rattle.roam_conf.specs.declared.place.Link.{Link}
use Rattle.roam_conf.specs.declared.place.Link.TheVariants.{Auth, Acct, Coa}
use Rattle.roam_conf.specs.Config.{ServerView, CoaClientView, PeerView, PatternView, whole, suffix, any, RealmView, ConfigView}
use Rattle.roam_conf.specs.Duplicates.{is_present, prefixes_present, same_endpoint}
use Rattle.roam_conf.specs.Patterns.{same_pattern, patterns_of}
use Rattle.roam_conf.specs.Ways.{is_way, by_way}
use Rattle.roam_conf.specs.WellFormed.{is_well_formed}

-- the first place, from 0, at which the list has an element that passes the test
abbrev pub first_place : {X : Type 0} → (X → Bool) → List X → Option ℕ
first_place test xs = position_from test 0 xs

-- the patterns of each realm and, behind them, those that are of no realm
abbrev pub pattern_lists : List RealmView → List PatternView → List (List PatternView)
pattern_lists realms reject = map patterns_of realms ++ reject ∷ []

-- whose a pattern is: the place of the list that has it, the first, and in a configuration the only one. It is a
-- realm's index, or behind them where the pattern is rejected
abbrev pub owner_in : List (List PatternView) → PatternView → Option ℕ
owner_in lists pattern = first_place (list_any (same_pattern pattern)) lists

abbrev pub owner_with : ConfigView → PatternView → Option ℕ
owner_with config pattern = owner_in (pattern_lists config.realms config.reject) pattern

-- the owner, where it is a realm; the same of the owner that there may be
abbrev pub realm_owning : ConfigView → ℕ → Option ℕ
realm_owning config owner = if nat_lt owner (length config.realms) then Some owner else None

abbrev pub realm_owned : ConfigView → Option ℕ → Option ℕ
realm_owned config owner = option_and_then (realm_owning config) owner

-- what follows each dot (46), the longest first
abbrev pub after_dots : List ℕ → List (List ℕ)
after_dots [] = []
after_dots (octet ∷ rest) = if octet == 46 then rest ∷ after_dots rest else after_dots rest

-- the patterns that a name fits beside its own, the nearest first: what follows its dots as a suffix, the longest
-- first, where something stands before that dot; and any name. The empty name fits none of them.
abbrev pub further_patterns : List ℕ → List PatternView
further_patterns [] = []
further_patterns (first ∷ rest) = map suffix (after_dots rest) ++ any ∷ []

-- a name may fit a pattern: names needn't be well formed, or it is
abbrev pub may_fit : ConfigView → List ℕ → Bool
may_fit config name = not config.well_formed || is_well_formed name

-- the patterns that a name is looked up by, the nearest first: its own and, if it may fit any, those that it fits
abbrev pub patterns_for : ConfigView → List ℕ → List PatternView
patterns_for config name = whole name ∷ (if may_fit config name then further_patterns name else [])

-- the first answer that there is
abbrev pub first_answer : {X Y : Type 0} → (X → Option Y) → List X → Option Y
first_answer answer [] = None
first_answer answer (x ∷ xs) = option_or (answer x) (first_answer answer xs)

-- ## Names of a realm
-- A realm's `name` and those of `also`, and the names of `reject`, each a whole name, `*.` and a name, or, of a
-- realm, `*`. The first of these that is there decides of a name: that it stands there whole; the longest `*.`
-- pattern that it ends in, dot included, with an octet at least before the dot; and, where it has an octet at
-- least, `*`. It means the realm whose that is, and none where it is one of `reject`. With `well_formed` a name
-- that isn't well formed fits no pattern. Always without ASCII case. No two of all these are equal, so the order
-- of the file doesn't count.
-- Source: RFC 7542 section 2.2, ours
-- Rules out: a pattern that beats a whole name; the shortest suffix; `*.a` that takes `ba` or `a`; a name to
-- reject that a shorter pattern of a realm beats; `*` for `a..b`
-- Stands in: `roam_conf` `Lookup.antt`: `realm_named`; `WellFormed.antt`, `Patterns.antt`, `Duplicates.antt`;
-- `realm_index`, the invariant of `Config`
--
-- which realm a name means: the one whose pattern decides, if it is a realm's
unfoldable pub realm_named : ConfigView → List ℕ → Option ℕ
realm_named config name =
    realm_owned config (first_answer (owner_with config) (patterns_for config name))

-- the name ends in a dot and this suffix, and has at least one octet before that
abbrev pub EndsIn : List ℕ → List ℕ → Type 0
EndsIn name ending = (front : List ℕ) × (front ≢ []) × (name ≡ front ++ 46 ∷ ending)

-- no suffix that the name ends in and that passes the test is anybody's
abbrev pub NoSuffix : (List ℕ → Type 0) → ConfigView → List ℕ → Type 0
NoSuffix Test config name =
    (ending : List ℕ) → EndsIn name ending → Test ending → owner_with config (suffix ending) ≡ None

-- the peer that is here of whose prefixes one is the longest of all those, of all peers that are here, that have the
-- address
unfoldable pub peer_with_ip : List PeerView → Address → Option ℕ
peer_with_ip peers ip =
    first_place (λ peer. is_present peer && list_any (is_longest (prefixes_present peers) ip) peer.ips) peers

-- a source at the address is this peer's
abbrev pub is_source_of : List PeerView → ℕ → Address → Bool
is_source_of peers peer ip = option_map_or (λ found. found == peer) (peer_with_ip peers ip) false

-- the same at one of the broker's own sockets for requests of peers, by its place in the list of these; nobody where
-- there is no such socket
abbrev pub asker_at : List Endpoint → List PeerView → ℕ → Address → Option ℕ
asker_at own peers place ip = option_and_then (λ here. peer_with_ip peers ip) (slice_get own place)

-- the endpoint is there, and at this address
abbrev pub has_ip : Address → Option Endpoint → Bool
has_ip ip endpoint = option_map_or (λ e. same_address e.ip ip) endpoint false

-- the first server, in configured order, that has the address in its `auth` or its `acct` endpoint
unfoldable pub server_with_ip : List ServerView → Address → Option ℕ
server_with_ip servers ip =
    first_place
    (λ server. has_ip ip server.auth || has_ip ip server.acct) servers

-- the first `coa_client` that has the address
unfoldable pub client_with_ip : List CoaClientView → Address → Option ℕ
client_with_ip clients ip = first_place (λ client. same_address client.ip ip) clients

-- the source that has the address, by its number: a server's place, or else behind the servers a `coa_client`'s
abbrev pub home_with_ip : RealmView → Address → Option ℕ
home_with_ip realm ip =
    option_or (server_with_ip realm.servers ip)
    (option_map (λ k. length realm.servers + k) (client_with_ip realm.coa_clients ip))

-- whose reverse requests come to a realm's `reverse` of this place from the address; nobody's where it has no such
abbrev pub reverse_home : RealmView → ℕ → Address → Option ℕ
reverse_home realm place ip = option_and_then (λ own. home_with_ip realm ip) (slice_get realm.reverse place)

-- where what goes to a server or a peer arrives, where that is configured and takes any
abbrev pub end_of : List PeerView → RealmView → Link → Option Endpoint
end_of peers realm (Auth server out) = option_and_then (λ s. s.auth) (slice_get realm.servers server)
end_of peers realm (Acct server out) = option_and_then (λ s. s.acct) (slice_get realm.servers server)
end_of peers realm (Coa peer out) = option_and_then (λ p. p.coa) (slice_get peers peer)

-- the place, in the realm's `out`, of the socket that the packets of a link leave from
abbrev pub out_of : Link → ℕ
out_of (Auth server out) = out
out_of (Acct server out) = out
out_of (Coa peer out) = out

-- the endpoint of a link of a realm, where there is such a link: its socket is there, and sends to its end
abbrev pub endpoint_of : List PeerView → RealmView → Link → Option Endpoint
endpoint_of peers realm link = option_and_then (by_way realm.out (out_of link)) (end_of peers realm link)

-- the endpoint is there, and is this one
abbrev pub is_there : Endpoint → Option Endpoint → Bool
is_there endpoint None = false
is_there endpoint (Some other) = same_endpoint other endpoint

-- the peer takes reverse requests at the endpoint
abbrev pub is_coa : Endpoint → PeerView → Bool
is_coa endpoint peer = is_there endpoint peer.coa

-- the link of a realm that an endpoint is, by the `out` of this place: a server's `auth`, else a server's `acct`, else
-- a peer's `coa`
abbrev pub coa_at : List PeerView → ℕ → Endpoint → Option Link
coa_at peers out endpoint = option_map (λ i. Coa i out) (first_place (is_coa endpoint) peers)

abbrev pub acct_or_coa_at : List PeerView → RealmView → ℕ → Endpoint → Option Link
acct_or_coa_at peers realm out endpoint =
    option_or (option_map (λ i. Acct i out) (first_place (λ server. is_there endpoint server.acct) realm.servers))
    (coa_at peers out endpoint)

abbrev pub end_at : List PeerView → RealmView → ℕ → Endpoint → Option Link
end_at peers realm out endpoint =
    option_or (option_map (λ i. Auth i out) (first_place (λ server. is_there endpoint server.auth) realm.servers))
    (acct_or_coa_at peers realm out endpoint)

-- it, where the realm has that `out`, and this sends there
unfoldable pub link_at : List PeerView → RealmView → ℕ → Endpoint → Option Link
link_at peers realm out endpoint = if is_way realm.out out endpoint then end_at peers realm out endpoint else None

-- the same of a realm by its index, where that realm is configured
abbrev pub link_in : ConfigView → ℕ → ℕ → Endpoint → Option Link
link_in config realm out endpoint =
    option_and_then (λ r. link_at config.peers r out endpoint) (slice_get config.realms realm)

abbrev pub home_in : ConfigView → ℕ → ℕ → Address → Option ℕ
home_in config realm place ip = option_and_then (λ r. reverse_home r place ip) (slice_get config.realms realm)

abbrev pub endpoint_in_realm : ConfigView → ℕ → Link → Option Endpoint
endpoint_in_realm config realm link =
    option_and_then (λ r. endpoint_of config.peers r link) (slice_get config.realms realm)

-- the servers of a realm, where there is one
abbrev pub servers_of : Option RealmView → List ServerView
servers_of None = []
servers_of (Some realm) = realm.servers

-- the servers of a realm by its index; none where that realm isn't configured
abbrev pub servers_in : ConfigView → ℕ → List ServerView
servers_in config realm = servers_of (slice_get config.realms realm)

-- the outgoing sockets of a realm, where there is one; of a realm by its index
abbrev pub outs_of : Option RealmView → List Endpoint
outs_of None = []
outs_of (Some realm) = realm.out

abbrev pub outs_in : ConfigView → ℕ → List Endpoint
outs_in config realm = outs_of (slice_get config.realms realm)

-- how many sources of reverse requests a realm has: its servers and its `coa_client`s; and a realm by its index
abbrev pub homes : RealmView → ℕ
homes realm = length realm.servers + length realm.coa_clients

abbrev pub homes_in : ConfigView → ℕ → ℕ
homes_in config realm = option_map_or homes (slice_get config.realms realm) 0

-- ## Look-ups
-- The realm that a name means; the peer that has the longest of all prefixes that have an address; the link of a realm
-- that an endpoint is, by one of the realm's `out`; the first home server of an address, or else the `coa_client`; the
-- shard of a realm, its index modulo their number. What is found is configured, and each link of a realm is the one
-- that its endpoint finds at its `out`.
-- Source: ours
-- Rules out: a shorter prefix that beats a longer, also one of another peer; the last server taken for the first; a
-- `coa_client` that takes a server's place; a link past the last server, or past the last `out`; a link that no packet
-- reaches; one that an `out` of the other kind would reach
-- Stands in: `roam_conf` `Lookup.antt`: `IsLinkIn` and others; `realm_index`, `peer_by_ip`, `link_of`,
-- `home_of`, `shard_of`, the laws `link_of_finds_its_endpoint`, `link_of_finds_each_link`
--
-- the server or the peer that a link names is configured, and so is its `out`
abbrev pub IsLinkIn : ConfigView → ℕ → Link → Type 0
IsLinkIn config realm (Auth server out) =
    (server < length (servers_in config realm)) × (out < length (outs_in config realm))
IsLinkIn config realm (Acct server out) =
    (server < length (servers_in config realm)) × (out < length (outs_in config realm))
IsLinkIn config realm (Coa peer out) = (peer < length config.peers) × (out < length (outs_in config realm))
