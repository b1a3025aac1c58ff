-- A broker over books as a contract sees it, and what its books keep (ours).
use Rattle.std.specs.Prelude.{◌≡◌, ℕ, ◌+◌, ◌≤◌, List, [], ◌∷◌, length, map}
use Rattle.roam_conf.specs.Config.{ConfigView}
use Rattle.roam_rules.specs.BookView.{BookView}
use Rattle.roam_realm.specs.RealmState.{RealmState}

-- a broker: its configuration, and the state of each realm, in the order of their indexes
pub record BrokerView : Type 0 where
  pub config : ConfigView
  pub states : List RealmState

-- the states of some books
abbrev pub states_of : List BookView → List RealmState
states_of books = map (λ b. b.state) books

-- the book of the realm of an index
pub record IsBookOf (config : ConfigView) (index : ℕ) (b : BookView) : Type 0 where
  pub same_config : b.config ≡ config
  pub own_realm : b.realm ≡ index

-- the books of the realms from this index on
abbrev pub AreBooks : ConfigView → ℕ → List BookView → Type 0
AreBooks config realm [] = Unit {0}
AreBooks config realm (b ∷ bs) = IsBookOf config realm b × AreBooks config (realm + 1) bs

-- what a broker keeps
pub record IsBroker (config : ConfigView) (books : List BookView) : Type 0 where
  pub each : AreBooks config 0 books
  pub count : length books ≡ length config.realms
  pub some_shard : 1 ≤ config.shards
