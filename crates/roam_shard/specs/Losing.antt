-- The losses of the realms where the shards of a paused hub follow another configuration, and when they don't (ours).
use Rattle.std.specs.Prelude.{◌≡◌, ℕ, ◌<◌, ◌%◌, Bool, false, List, length, Some, slice_get}
use Rattle.roam_conf.specs.Config.{ConfigView}
use Rattle.roam_reload.specs.Reload.{IsCarried}
use Rattle.roam_realm.specs.RealmConfig.{realm_config}
use Rattle.roam_realm.specs.RealmState.{RealmState}
use Rattle.roam_migrate.specs.Losses.{LossView, all_lost, losses}
use Rattle.roam_migrate.specs.declared.losses.Loss.{Loss}
use Rattle.roam_core.specs.ManyRealms.{state_at}
use Rattle.roam_shard.specs.Looks.{IsLoss}
use Rattle.roam_shard.specs.Pausing.{states_under}
use Rattle.roam_shard.specs.declared.paused.Paused.{Paused}
use Rattle.roam_shard.specs.declared.declined.Declined.{Declined}
use Rattle.roam_shard.specs.declared.declined.Declined.TheVariants as declined

-- ## Guard of a change
-- A configuration to which nobody agreed follows only where no realm loses a waiting request or a session by that:
-- where nobody serves any more, in the state of each realm in its own shard. Otherwise it is declined with what each
-- realm would lose, and each realm stays in the state in which it was. A held reply that goes stops no change: it is
-- told with the other losses.
-- Source: ours
-- Rules out: a request that came while a change was made ready, and goes by it unseen; a change declined that takes
-- nothing, or nothing but held replies; a look at the first realm only
-- Stands in: `roam_shard` `Losing.antt`: `beside_replies`, `LosesNothing`, `NothingIsLost`, `SomethingIsLost`,
-- `AreLosses`, `IsDeclined`; `follow`
--
-- no waiting request, no held reply and no session
abbrev pub no_loss : LossView
no_loss = record { waiting = 0; held = 0; sessions = 0 }

-- what of a loss stops a change to which nobody agreed: its held replies don't
abbrev pub beside_replies : LossView → LossView
beside_replies loss = record loss { held = 0 }

-- a realm in this state loses nothing but held replies: all else is carried over, or it goes and has nothing else
pub record LosesNothing (old new : ConfigView) (realm : ℕ) (s : RealmState) : Type 0 where
  pub carried : IsCarried old new realm
      → beside_replies (losses (realm_config old realm) (realm_config new realm) s) ≡ no_loss
  pub gone : ¬ IsCarried old new realm → beside_replies (all_lost s) ≡ no_loss

module _ {A : Type 0} where
  -- no realm loses anything but held replies of its state in its shard
  abbrev pub NothingIsLost : ConfigView → ConfigView → List (Paused A) → Type 0
  NothingIsLost old new shards = (realm : ℕ) (p : Paused A) → realm < length old.realms
      → slice_get shards (realm % old.shards) ≡ Some p
      → LosesNothing old new realm (state_at (states_under old p) realm)

  -- some realm does
  pub record SomethingIsLost (old new : ConfigView) (shards : List (Paused A)) : Type 0 where
    pub realm : ℕ
    pub shard : Paused A
    pub configured : realm < length old.realms
    pub at : slice_get shards (realm % old.shards) ≡ Some shard
    pub loses : ¬ LosesNothing old new realm (state_at (states_under old shard) realm)

  -- what a realm loses of its state in its shard
  abbrev pub IsLossIn : ConfigView → ConfigView → List (Paused A) → ℕ → Loss → Type 0
  IsLossIn old new shards realm loss = (p : Paused A) → slice_get shards (realm % old.shards) ≡ Some p
      → IsLoss old new realm (state_at (states_under old p) realm) loss

  -- and so each, by its index
  pub record AreLosses (old new : ConfigView) (shards : List (Paused A)) (losses : List Loss) : Type 0 where
    pub count : length losses ≡ length old.realms
    pub each : (realm : ℕ) (loss : Loss) → slice_get losses realm ≡ Some loss → IsLossIn old new shards realm loss

  -- it is declined for what would be lost, to which nobody agreed
  pub record IsDeclinedFor (is_agreed : Bool) (old new : ConfigView) (shards : List (Paused A)) (losses : List Loss)
      : Type 0 where
    pub disagreed : is_agreed ≡ false
    pub told : AreLosses old new shards losses
    pub some : SomethingIsLost old new shards

  -- or memory is wanting
  abbrev pub IsDeclined : Bool → ConfigView → ConfigView → List (Paused A) → Declined A → Type 0
  IsDeclined is_agreed old new shards declined.Memory = Unit {0}
  IsDeclined is_agreed old new shards (declined.Losses losses) = IsDeclinedFor is_agreed old new shards losses.items
