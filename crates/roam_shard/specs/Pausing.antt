-- A shard that was taken from its configuration, and the memory with which it follows another (ours).
use Rattle.std.specs.Prelude.{◌≡◌, ◌≢◌, ◌⊎◌, ℕ, ◌≤◌, true, List, [], Option, Some, None, length, slice_get, vec_capacity}
use Rattle.roam_conf.specs.Config.{ConfigView}
use Rattle.roam_reload.specs.Reload.{IsCarried}
use Rattle.roam_pending.specs.PlainEntry.{PlainEntry}
use Rattle.roam_realm.specs.RealmConfig.{RealmConfig, realm_config}
use Rattle.roam_realm.specs.RealmState.{RealmState}
use Rattle.roam_realm.specs.Sound.{IsSound, state_of}
use Rattle.roam_realm.specs.declared.realm_numbers.RealmNumbers.{RealmNumbers}
use Rattle.roam_realm.specs.declared.start.Start.{Start}
use Rattle.roam_migrate.specs.Carrying.{AreChanged, IsReadyToCarry}
use Rattle.roam_migrate.specs.Reload.{carried}
use Rattle.roam_migrate.specs.declared.lanes.FreshLanes.{FreshLanes}
use Rattle.roam_core.specs.Events.{is_in_shard}
use Rattle.roam_core.specs.Openings.{first_start}
use Rattle.roam_shard.specs.ShardView.{IsShard, OpeningView, states_in}
use Rattle.roam_shard.specs.NumbersView.{IsOpened}
use Rattle.roam_shard.specs.declared.paused.Paused.{Paused}
use Rattle.roam_shard.specs.declared.following.FreshNumbers.{FreshNumbers}
use Rattle.roam_shard.specs.declared.following.FreshRealm.{FreshRealm}

-- ## Paused shard
-- A shard that was taken from its configuration. It stands under a configuration where it would be a shard of
-- it, and its realms have states there. It is resumed under that one.
-- Source: ours
-- Rules out: a pause that changes a state
-- Stands in: `roam_shard` `Pausing.antt`: `StandsUnder`, `states_under`, `opening_under`, `StandsStill`;
-- `Shard::pause`, `resume`, `Paused::reserve`
--
-- a realm is one of the shard's, and goes on
pub record GoesOn (old new : ConfigView) (shard realm : ℕ) : Type 0 where
  pub own : is_in_shard new shard realm ≡ true
  pub carried : IsCarried old new realm

module _ {A : Type 0} where
  -- how it was opened, as a shard of this configuration
  abbrev pub opening_under : ConfigView → Paused A → OpeningView
  opening_under config p = record { shard = p.shard; config = config; starts = p.starts.items }

  -- it stands under this configuration; the states of its realms there
  abbrev pub StandsUnder : ConfigView → Paused A → Type 0
  StandsUnder config p = IsShard (opening_under config p) p.entries p.numbers.items

  abbrev pub states_under : ConfigView → Paused A → List RealmState
  states_under config p = states_in (opening_under config p) p.entries p.numbers.items

  -- it stands as before
  pub record StandsStill (config : ConfigView) (old new : Paused A) : Type 0 where
    pub stands : StandsUnder config new
    pub states : states_under config new ≡ states_under config old
    pub shard : new.shard ≡ old.shard

  -- the numbers of other realms are as they were, and the entries
  pub record KeepsOthers (realm : ℕ) (old new : Paused A) : Type 0 where
    pub others : (r : ℕ) → r ≢ realm → slice_get new.numbers.items r ≡ slice_get old.numbers.items r
    pub entries : new.entries ≡ old.entries

  -- where a realm begins anew: where its numbers stand, or where there are none, at the first start
  abbrev pub start_in : Option (Option (RealmNumbers A)) → Start
  start_in None = first_start
  start_in (Some None) = first_start
  start_in (Some (Some n)) = record { place = n.stream_position; ticket = n.ticket }

  abbrev pub begin_at : List (Option (RealmNumbers A)) → ℕ → Start
  begin_at numbers realm = start_in (slice_get numbers realm)

  -- the memory of the lanes of a realm that goes on is there
  abbrev pub AreLanesReady : ConfigView → ConfigView → ℕ → List (Option (RealmNumbers A)) → Option (FreshLanes A)
      → Type 0
  AreLanesReady old new realm numbers lanes =
      (n : RealmNumbers A) → slice_get numbers realm ≡ Some (Some n)
      → IsReadyToCarry (realm_config old realm) (realm_config new realm) n lanes

  -- the memory of a realm is there: of lanes where it goes on; else of numbers that nothing uses, where it is one of
  -- the shard's
  pub record IsReadyAt (old new : ConfigView) (shard realm : ℕ) (numbers : List (Option (RealmNumbers A)))
      (fresh : FreshRealm A) : Type 0 where
    pub lanes : GoesOn old new shard realm → AreLanesReady old new realm numbers fresh.lanes
    pub opened : ¬ GoesOn old new shard realm → IsOpened (realm_config new realm) (begin_at numbers realm)
        (is_in_shard new shard realm) fresh.numbers

  -- of each realm of the new configuration; and the peers are known whose tables are other ones
  pub record IsReady (old new : ConfigView) (p : Paused A) (fresh : FreshNumbers A) : Type 0 where
    pub count : length fresh.realms.items ≡ length new.realms
    pub room : length new.realms ≤ vec_capacity fresh.numbers
    pub none_yet : fresh.numbers.items ≡ []
    pub kept : length new.realms ≤ length p.entries
    pub changed : AreChanged old.peers new.peers fresh.changed.items
    pub each : (realm : ℕ) (f : FreshRealm A) → slice_get fresh.realms.items realm ≡ Some f
        → IsReadyAt old new p.shard realm p.numbers.items f

  -- a realm's entries and numbers went over from one part to another
  pub record HasGoneOver (old new : RealmConfig) (entries : List PlainEntry) (numbers : RealmNumbers A)
      (entries_after : List PlainEntry) (after : RealmNumbers A) : Type 0 where
    pub state : state_of entries_after after ≡ carried old new (state_of entries numbers)
    pub sound : IsSound new entries_after after

  -- it can: its numbers stand, they fit its entries, and the memory of its lanes is there
  pub record CanGoOver (old new : ConfigView) (realm : ℕ) (entries : List PlainEntry)
      (there : Option (Option (RealmNumbers A))) (lanes : Option (FreshLanes A)) : Type 0 where
    pub numbers : RealmNumbers A
    pub at : there ≡ Some (Some numbers)
    pub sound : IsSound (realm_config old realm) entries numbers
    pub ready : IsReadyToCarry (realm_config old realm) (realm_config new realm) numbers lanes

  -- so can each realm of these that goes on
  abbrev pub AllCanGoOver : ConfigView → ConfigView → ℕ → (ℕ → List PlainEntry) → List (Option (RealmNumbers A))
      → List (FreshRealm A) → Type 0
  AllCanGoOver old new shard entries numbers fresh =
      (realm : ℕ) (f : FreshRealm A) → slice_get fresh realm ≡ Some f → GoesOn old new shard realm
      → CanGoOver old new realm (entries realm) (slice_get numbers realm) f.lanes

  -- and then it has numbers under the new part
  pub record HasNumbersThen (old new : RealmConfig) (entries : List PlainEntry) (numbers : RealmNumbers A)
      (entries_after : List PlainEntry) (there : Option (RealmNumbers A)) : Type 0 where
    pub after : RealmNumbers A
    pub is : there ≡ Some after
    pub over : HasGoneOver old new entries numbers entries_after after

  -- a realm's entries and numbers went over, where it goes on; else what was made for it stands
  abbrev pub IsOver : ConfigView → ConfigView → ℕ → ℕ → Option (Option (RealmNumbers A)) → List PlainEntry
      → Option (RealmNumbers A) → List PlainEntry → Option (RealmNumbers A) → Type 0
  IsOver old new shard realm there entries made entries_after after =
      (GoesOn old new shard realm × ((n : RealmNumbers A) → there ≡ Some (Some n)
      → HasNumbersThen (realm_config old realm) (realm_config new realm) entries n entries_after after))
      ⊎ ((¬ GoesOn old new shard realm) × (after ≡ made) × (entries_after ≡ entries))

  -- so of each realm of these
  pub record AreOver (old new : ConfigView) (shard : ℕ) (numbers : List (Option (RealmNumbers A)))
      (entries entries_after : ℕ → List PlainEntry) (fresh : List (FreshRealm A))
      (after : List (Option (RealmNumbers A))) : Type 0 where
    pub count : length after ≡ length fresh
    pub each : (realm : ℕ) (f : FreshRealm A) (m : Option (RealmNumbers A)) → slice_get fresh realm ≡ Some f
        → slice_get after realm ≡ Some m → IsOver old new shard realm (slice_get numbers realm) (entries realm)
        f.numbers (entries_after realm) m
    pub others : (realm : ℕ) → length fresh ≤ realm → entries_after realm ≡ entries realm
