-- The states of all realms, each in its own shard (ours).
use Rattle.std.specs.Prelude.{◌≡◌, ℕ, zero, suc, ◌+◌, ◌≤◌, ◌%◌, List, [], ◌∷◌, Some, length, slice_get, slice_index_or}
use Rattle.roam_conf.specs.Config.{ConfigView}
use Rattle.roam_realm.specs.RealmState.{RealmState}
use Rattle.roam_core.specs.ManyRealms.{state_at}
use Rattle.roam_shard.specs.ShardView.{ShardView}

-- what stands for a shard that isn't there
abbrev pub no_shard : ConfigView → ShardView
no_shard config = record { opening = record { shard = 0; config = config; starts = [] }; states = [] }

-- the state of a realm, in its own shard
abbrev pub own_state : ConfigView → List ShardView → ℕ → RealmState
own_state config shards realm =
    state_at (slice_index_or shards (realm % config.shards) (no_shard config)).states realm

-- those of so many realms from one on
unfoldable pub states_across : ConfigView → List ShardView → ℕ → ℕ → List RealmState
states_across config shards realm zero = []
states_across config shards realm (suc n) =
    own_state config shards realm ∷ states_across config shards (realm + 1) n

abbrev pub all_states : ConfigView → List ShardView → List RealmState
all_states config shards = states_across config shards 0 (length config.realms)

-- a shard of this number, of this configuration
pub record IsShardOf (config : ConfigView) (number : ℕ) (s : ShardView) : Type 0 where
  pub same_config : s.opening.config ≡ config
  pub own_number : s.opening.shard ≡ number
  pub whole : length s.states ≡ length config.realms

-- what a broker of many shards keeps
pub record IsSharded (config : ConfigView) (shards : List ShardView) : Type 0 where
  pub each : (k : ℕ) (s : ShardView) → slice_get shards k ≡ Some s → IsShardOf config k s
  pub count : length shards ≡ config.shards
  pub some_shard : 1 ≤ config.shards
