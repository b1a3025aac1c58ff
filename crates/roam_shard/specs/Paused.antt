-- The shards of a paused hub (ours).
use Rattle.std.specs.Prelude.{◌≡◌, ℕ, List, Some, length, slice_get}
use Rattle.roam_conf.specs.Config.{ConfigView}
use Rattle.roam_shard.specs.Pausing.{StandsUnder}
use Rattle.roam_shard.specs.declared.paused.Paused.{Paused}

module _ {A : Type 0} where
  -- a paused shard of this number stands under a configuration
  pub record IsPaused (config : ConfigView) (number : ℕ) (p : Paused A) : Type 0 where
    pub shard : p.shard ≡ number
    pub stands : StandsUnder config p

  -- ## Shards at the end
  -- When a hub is paused its shards come back, one for each number. Each stands under the hub's configuration
  -- where its history ends.
  -- Source: ours
  -- Rules out: a shard that goes on elsewhere than where its last answer left it
  -- Stands in: `roam_shard` `Paused.antt`: `ArePaused`; `roam_hub` `Pausing.antt`: `StandAtEnd`; `Hub::pause`:
  -- `paused`, `stand`
  --
  -- one for each number
  pub record ArePaused (config : ConfigView) (shards : List (Paused A)) : Type 0 where
    pub count : length shards ≡ config.shards
    pub each : (k : ℕ) (p : Paused A) → slice_get shards k ≡ Some p → IsPaused config k p
