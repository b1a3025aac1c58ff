-- The conditions for a configuration to follow another while the proxy serves, and the realms that go on then. Ours.
-- Both are laid out by numbers (`Numbers.antt`): an index is one realm's, or one peer's, in both.
use Rattle.std.specs.Prelude.{◌≡◌, ℕ, true, false, List, [], ◌++◌, Some, filter, map, not, option_map, slice_get}
use Rattle.std.specs.List.{flat_map}
use Rattle.roam_conf.specs.Config.{ConfigView, PeerView, RealmView}
use Rattle.roam_conf.specs.Duplicates.{is_among}
use Rattle.roam_address.specs.declared.endpoint.Endpoint.{Endpoint}
use Rattle.roam_reload.specs.Kept.{same_prefixes}
use Rattle.roam_reload.specs.Numbers.{KeepsNumbers, is_here}
use Rattle.roam_reload.specs.declared.kind.PlaceKind.{PlaceKind}
use Rattle.roam_reload.specs.declared.kind.PlaceKind.TheVariants.{Auth, Acct, Out, Reverse}

-- ## Goes on
-- A realm goes on where it is here under both configurations: as another broker of one realm, under its part of the new
-- one, in the state that is carried over. One that is here under the new one alone begins; one that went ends.
-- Source: ours
-- Rules out: a realm that begins anew since its table changed, or another one's
-- Stands in: `roam_reload` `Reload.antt`: `IsCarried`; `is_carried`
--
pub record IsCarried (old new : ConfigView) (realm : ℕ) : Type 0 where
  pub was_here : is_here old realm ≡ true
  pub is_here : is_here new realm ≡ true

-- what a realm's packets depend on in its table: all but what names it
abbrev pub realm_part : RealmView → RealmView
realm_part realm = record realm { name = []; also = [] }

-- what they depend on in a peer's table: all but its addresses, which say whose a source is, and which of its
-- Access-Requests need a Message-Authenticator
abbrev pub peer_part : PeerView → PeerView
peer_part peer = record peer { ips = []; require_seal = false; limit_proxy_state = false }

-- two tables of a peer have the same part and the same prefixes, whatever the order of these
pub record IsSamePeer (old new : PeerView) : Type 0 where
  pub part : peer_part new ≡ peer_part old
  pub ips : same_prefixes old.ips new.ips ≡ true

-- such two stand at a number
pub record IsKeptAt (old new : List PeerView) (peer : ℕ) : Type 0 where
  pub before : PeerView
  pub after : PeerView
  pub was : slice_get old peer ≡ Some before
  pub is : slice_get new peer ≡ Some after
  pub same : IsSamePeer before after

-- the old peers are the first of the new ones, in this part of their tables, and have the same prefixes
pub record KeepsPeers (old new : List PeerView) : Type 0 where
  pub more : List PeerView
  pub same : map peer_part new ≡ map peer_part old ++ more
  pub ips :
      (peer : ℕ) (before after : PeerView) → slice_get old peer ≡ Some before → slice_get new peer ≡ Some after
      → same_prefixes before.ips after.ips ≡ true

-- ## Untouched
-- A change doesn't touch a realm where it goes on with an equal table, its `name` and `also` aside, and each peer that
-- had a number has it with an equal table: the same `name`, `ip`, `secret`, `coa`, `nas_ip`, `nas_ipv6`, `nas_id`,
-- `nas_ids`, `operator_name`, `ask_cui`, `request_without` and `reply_without`; `require_seal`, `limit_proxy_state`,
-- the order of addresses in `ip` and further peers may differ. All peers count, since the access server of a reverse
-- request is looked for among all. Only what came from an address goes for which a further peer has a longer prefix.
-- Source: ours
-- Rules out: a realm that is called untouched, and whose reverse requests go to another access server from then on
-- Stands in: `roam_reload` `Reload.antt`: `IsUntouched`, `KeepsPeers`; `is_untouched`
--
pub record IsUntouched (old new : ConfigView) (realm : ℕ) : Type 0 where
  pub carried : IsCarried old new realm
  pub table : option_map realm_part (slice_get new.realms realm) ≡ option_map realm_part (slice_get old.realms realm)
  pub peers : KeepsPeers old.peers new.peers

-- the realms that are here
abbrev pub here : List RealmView → List RealmView
here realms = filter (λ realm. not realm.gone) realms

-- the endpoints of the broker's own places of a kind
abbrev pub endpoints_of : ConfigView → PlaceKind → List Endpoint
endpoints_of config Auth = config.auth
endpoints_of config Acct = config.acct
endpoints_of config Out = flat_map (λ realm. realm.out) (here config.realms)
endpoints_of config Reverse = flat_map (λ realm. realm.reverse) (here config.realms)

-- an endpoint that both have is at places of one kind
abbrev pub KeepsKinds : ConfigView → ConfigView → Type 0
KeepsKinds old new = (before after : PlaceKind) (endpoint : Endpoint)
    → is_among (endpoints_of old before) endpoint ≡ true → is_among (endpoints_of new after) endpoint ≡ true
    → after ≡ before

-- ## May follow
-- A configuration may follow another while the broker serves where seed and `shards` are equal, each number is the same
-- realm's or peer's, or its place is empty, and an endpoint that both have as one of the broker's own places is at a
-- place of one kind: `auth`, `acct`, an `out` or a `reverse`.
-- Source: ours
-- Rules out: a socket kept open in whose buffer lie packets of another kind; random words drawn from another
-- seed; a realm that comes where another stood
-- Stands in: `roam_reload` `Reload.antt`: `MayFollow`, `KeepsKinds`; `hindrance_of`
--
pub record MayFollow (old new : ConfigView) : Type 0 where
  pub seed : new.seed ≡ old.seed
  pub shards : new.shards ≡ old.shards
  pub numbers : KeepsNumbers old new
  pub kinds : KeepsKinds old new
