-- The state of a hub's realm, as it is seen (ours).
use Rattle.std.specs.Prelude.{ℕ, ◌%◌, List}
use mathlib.Core.List.{IsPrefix}
use Rattle.roam_conf.specs.Config.{ConfigView}
use Rattle.roam_realm.specs.declared.gauges.Gauges.{Gauges}
use Rattle.roam_migrate.specs.declared.losses.Loss.{Loss}
use Rattle.roam_core.specs.ManyRealms.{state_at}
use Rattle.roam_shard.specs.Looks.{IsLoss, StandsAs}
use Rattle.roam_shard.specs.History.{IsHistory, end_of}
use Rattle.roam_history.specs.Entries.{HistoryEntry, steps_in}
use Rattle.roam_history.specs.HubOpening.{HubOpening, opening_at}
use Rattle.roam_history.specs.Seats.{SeatView, front_of}

-- the numbers are those of the realm's state where the history of a shard ended when it was looked at: no earlier than
-- a seat has seen it
pub record StandsIn (o : HubOpening) (shard realm : ℕ) (seat : SeatView) (g : Gauges) : Type 0 where
  pub entries : List HistoryEntry
  pub begins : IsPrefix (front_of seat shard) entries
  pub history : IsHistory (opening_at o shard) (steps_in entries)
  pub stands : StandsAs (state_at (end_of (opening_at o shard) (steps_in entries)) realm) g

-- and the shard is the realm's
abbrev pub StandsThen : HubOpening → ℕ → SeatView → Gauges → Type 0
StandsThen o realm seat g = StandsIn o (realm % o.config.shards) realm seat g

-- what would go of a realm by a change is what goes of its state where the history of a shard ended when it was
-- looked at
pub record LosesIn (o : HubOpening) (next : ConfigView) (shard realm : ℕ) (seat : SeatView) (loss : Loss) : Type 0 where
  pub entries : List HistoryEntry
  pub begins : IsPrefix (front_of seat shard) entries
  pub history : IsHistory (opening_at o shard) (steps_in entries)
  pub loses : IsLoss o.config next realm (state_at (end_of (opening_at o shard) (steps_in entries)) realm) loss

abbrev pub WouldLose : HubOpening → ConfigView → ℕ → SeatView → Loss → Type 0
WouldLose o next realm seat loss = LosesIn o next (realm % o.config.shards) realm seat loss
