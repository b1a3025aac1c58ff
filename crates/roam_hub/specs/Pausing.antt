-- The shards of a hub that go on in another one (ours).
use Rattle.std.specs.Prelude.{◌≡◌, ℕ, List, [], Option, Some, None, length, slice_get}
use Rattle.roam_conf.specs.Config.{ConfigView}
use Rattle.roam_realm.specs.RealmState.{RealmState}
use Rattle.roam_shard.specs.ShardView.{ShardView}
use Rattle.roam_shard.specs.Pausing.{StandsUnder, states_under}
pub use Rattle.roam_shard.specs.Paused.{ArePaused, IsPaused}
use Rattle.roam_shard.specs.declared.paused.Paused.{Paused}
use Rattle.roam_shard.specs.History.{end_of}
use Rattle.roam_shard.specs.Steps.{PlainStep}
use Rattle.roam_history.specs.HubOpening.{HubOpening, opening_at}
use Rattle.roam_history.specs.Audit.{steps_of}

module _ {A : Type 0} where
  -- a shard was taken from its configuration
  pub record IsPausedShard (s : ShardView) (p : Paused A) : Type 0 where
    pub shard : p.shard ≡ s.opening.shard
    pub stands : StandsUnder s.opening.config p
    pub states : states_under s.opening.config p ≡ s.states

  -- the states of a shard's realms: none of a shard that isn't there
  abbrev pub states_of_one : ConfigView → Option (Paused A) → List RealmState
  states_of_one config None = []
  states_of_one config (Some p) = states_under config p

  -- a hub over them: the history of each begins where it stands
  abbrev pub opening_over : ConfigView → List (Paused A) → HubOpening
  opening_over config shards =
      record { config = config; states = λ shard. states_of_one config (slice_get shards shard) }

  -- each stands where its history ends
  abbrev pub StandAtEnd : HubOpening → List (List PlainStep) → List (Paused A) → Type 0
  StandAtEnd o steps shards = (k : ℕ) (p : Paused A) → slice_get shards k ≡ Some p
      → states_under o.config p ≡ end_of (opening_at o k) (steps_of steps k)

  -- each of these shards was taken from its configuration
  pub record ArePausedShards (shards : List ShardView) (paused : List (Paused A)) : Type 0 where
    pub count : length paused ≡ length shards
    pub each : (k : ℕ) (s : ShardView) (p : Paused A) → slice_get shards k ≡ Some s → slice_get paused k ≡ Some p
        → IsPausedShard s p
