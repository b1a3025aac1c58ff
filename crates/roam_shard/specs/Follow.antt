-- The fate of a shard's realms when a configuration follows another (ours).
use Rattle.std.specs.Prelude.{◌≡◌, ℕ, ◌<◌, true, List, length}
use Rattle.roam_conf.specs.Config.{ConfigView}
use Rattle.roam_reload.specs.Reload.{IsCarried}
use Rattle.roam_realm.specs.RealmConfig.{realm_config}
use Rattle.roam_realm.specs.RealmState.{RealmState, opening}
use Rattle.roam_migrate.specs.Reload.{carried}
use Rattle.roam_core.specs.Events.{is_in_shard}
use Rattle.roam_core.specs.ManyRealms.{state_at}
use Rattle.roam_core.specs.Openings.{next_start}

-- ## State after a change
-- Of a realm of the new configuration that is one of the shard's, where the configuration changes: where it goes on,
-- what is carried over of the state in which it stood. Where it is new, or went, it stands as at an opening: no
-- entries, no sessions, cursors 0 and no rests, at the place in its random words and the next ticket where the realm of
-- its index stood. Where none stood there, as of each new one, both are 0.
-- Source: ours
-- Rules out: random words or a ticket that come twice; an entry that waits at a link whose secret changed; a realm that
-- begins anew since its table changed
-- Stands in: `roam_core` `Openings.antt`: `next_start`; `roam_shard` `Follow.antt`: `Follows`, `AllFollow`;
-- `Paused::follow`; of all shards `roam_shard` `Following.antt`: `HaveFollowed`, `StandAsBefore`; `follow`
--
-- a realm that goes on does so in what is carried over of its state. Any other stands with no entries, no sessions,
-- cursors 0 and no rests
pub record Follows (old new : ConfigView) (realm : ℕ) (before after : RealmState) : Type 0 where
  pub goes_on : IsCarried old new realm → after ≡ carried (realm_config old realm) (realm_config new realm) before
  pub begins_anew : ¬ IsCarried old new realm → after ≡ opening (realm_config new realm) (next_start before)

-- so does each realm of the new configuration that is one of the shard's
pub record AllFollow (old new : ConfigView) (shard : ℕ) (before after : List RealmState) : Type 0 where
  pub count : length after ≡ length new.realms
  pub each : (realm : ℕ) → realm < length new.realms → is_in_shard new shard realm ≡ true
      → Follows old new realm (state_at before realm) (state_at after realm)
