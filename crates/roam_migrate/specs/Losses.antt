-- The losses of a realm by a change, counted (ours).
use Rattle.std.specs.Prelude.{ℕ, ◌-◌, List, filter, length, not}
use Rattle.roam_pending.specs.PlainEntry.{PlainEntry, is_done}
use Rattle.roam_realm.specs.RealmConfig.{RealmConfig}
use Rattle.roam_realm.specs.RealmState.{RealmState}
use Rattle.roam_migrate.specs.Reload.{entries_then, sessions_then}

-- ## Losses of a change
-- How many waiting requests, held replies and sessions of a realm go by a change: as many as its state has more of them
-- before than after.
-- Source: ours
-- Rules out: a change that drops what isn't counted
-- Stands in: `roam_migrate` `Losses.antt`: `losses`; `losses_of`; `roam_history` `Looks.antt`: `WouldLose`;
-- `Hub::losses`
--
pub record LossView : Type 0 where
  pub waiting : ℕ
  pub held : ℕ
  pub sessions : ℕ

abbrev pub count_waiting : List PlainEntry → ℕ
count_waiting es = length (filter (λ e. not (is_done e)) es)

abbrev pub count_held : List PlainEntry → ℕ
count_held es = length (filter is_done es)

abbrev pub losses : RealmConfig → RealmConfig → RealmState → LossView
losses old new s = record {
  waiting = count_waiting s.entries - count_waiting (entries_then old new s.entries);
  held = count_held s.entries - count_held (entries_then old new s.entries);
  sessions = length s.sessions - length (sessions_then old new s.sessions);
}

-- all that a realm has is lost where it goes
abbrev pub all_lost : RealmState → LossView
all_lost s = record {
  waiting = count_waiting s.entries;
  held = count_held s.entries;
  sessions = length s.sessions;
}
