-- The shards of a paused hub follow another configuration (ours).
use Rattle.std.specs.Prelude.{◌≡◌, ℕ, List, Some, length, slice_get}
use Rattle.roam_conf.specs.Config.{ConfigView}
use Rattle.roam_shard.specs.Follow.{AllFollow}
use Rattle.roam_shard.specs.Pausing.{IsReady, states_under}
use Rattle.roam_shard.specs.declared.paused.Paused.{Paused}
use Rattle.roam_shard.specs.declared.following.FreshNumbers.{FreshNumbers}
use Rattle.roam_shard.specs.Paused.{ArePaused}

module _ {A : Type 0} where
  -- they stand under the same configuration as before, and each realm in the same state
  pub record StandAsBefore (config : ConfigView) (before after : List (Paused A)) : Type 0 where
    pub paused : ArePaused config after
    pub states : (k : ℕ) (p q : Paused A) → slice_get before k ≡ Some p → slice_get after k ≡ Some q
        → states_under config q ≡ states_under config p

  -- they stand under the new one, each realm in the state that follows
  pub record HaveFollowed (old new : ConfigView) (before after : List (Paused A)) : Type 0 where
    pub paused : ArePaused new after
    pub follow : (k : ℕ) (p q : Paused A) → slice_get before k ≡ Some p → slice_get after k ≡ Some q
        → AllFollow old new k (states_under old p) (states_under new q)

  -- the memory is there with which each follows: a word of private functions alone
  pub record AreReady (old new : ConfigView) (shards : List (Paused A)) (fresh : List (FreshNumbers A)) : Type 0 where
    pub count : length fresh ≡ length shards
    pub each : (k : ℕ) (p : Paused A) (f : FreshNumbers A) → slice_get shards k ≡ Some p → slice_get fresh k ≡ Some f
        → IsReady old new p f
