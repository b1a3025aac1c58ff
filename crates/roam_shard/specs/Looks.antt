-- The parts of a shard that are looked at (ours).
use Rattle.std.specs.Prelude.{◌≡◌, ℕ, ◌<◌, true, List, Option, Some, length, slice_get}
use Rattle.roam_conf.specs.Config.{ConfigView}
use Rattle.roam_reload.specs.Reload.{IsCarried}
use Rattle.roam_realm.specs.RealmConfig.{realm_config}
use Rattle.roam_realm.specs.RealmState.{RealmState}
use Rattle.roam_realm.specs.declared.gauges.Gauges.{Gauges}
use Rattle.roam_realm.specs.declared.realm_numbers.RealmNumbers.{RealmNumbers}
use Rattle.roam_migrate.specs.Carrying.{shown_loss}
use Rattle.roam_migrate.specs.Losses.{all_lost, losses}
use Rattle.roam_migrate.specs.declared.losses.Loss.{Loss}
use Rattle.roam_core.specs.Events.{is_in_shard}
use Rattle.roam_shard.specs.ShardView.{OpeningView}

-- the realm is configured, and one of the shard's
pub record IsOwn (o : OpeningView) (realm : ℕ) : Type 0 where
  pub configured : realm < length o.config.realms
  pub in_shard : is_in_shard o.config o.shard realm ≡ true

-- no numbers stand there
abbrev pub NoneThere : {A : Type 0} → List (Option (RealmNumbers A)) → ℕ → Type 0
NoneThere numbers realm = (n : _) → slice_get numbers realm ≡ Some (Some n) → ⊥

-- ## How a realm is seen to stand
-- As many entries and open sessions as the realm's state has where some history of its shard ends. Of
-- Identifiers in use and of rests nothing is said.
-- Source: ours
-- Rules out: numbers of a state in which the realm never was
-- Stands in: `roam_shard` `Looks.antt`: `StandsAs`, `IsOwn`; `roam_history` `Looks.antt`: `StandsThen`;
-- `Hub::look`
--
-- the numbers of a state: how many entries it has, and how many sessions are open
pub record StandsAs (s : RealmState) (g : Gauges) : Type 0 where
  pub entries : g.entries ≡ length s.entries
  pub sessions : g.sessions ≡ length s.sessions

-- what goes of a realm in this state where one configuration follows another: what isn't carried over, or all
pub record IsLoss (old new : ConfigView) (realm : ℕ) (s : RealmState) (loss : Loss) : Type 0 where
  pub carried : IsCarried old new realm → shown_loss loss ≡ losses (realm_config old realm) (realm_config new realm) s
  pub gone : ¬ IsCarried old new realm → shown_loss loss ≡ all_lost s
