-- The shards of a hub that is closed: words of private functions alone (ours).
use Rattle.std.specs.Prelude.{◌≡◌, ℕ, ◌≤◌, List, [], Some, length, map, slice_get, vec_capacity}
use Rattle.std.specs.declared.vec.Vec.{Vec}
use Rattle.roam_shard.specs.ShardView.{ShardView}
use Rattle.roam_shard.specs.History.{IsHistory, end_of}
use Rattle.roam_core.specs.Events.{PlainEvent}
use Rattle.roam_shard.specs.Steps.{PlainStep, events_of}
use Rattle.roam_history.specs.Entries.{HistoryEntry, stored_of}
use Rattle.roam_history.specs.Fronts.{FrontView}
use Rattle.roam_history.specs.HubOpening.{HubOpening, opening_at}
use Rattle.roam_history.specs.Shown.{all_in, items_of}

-- an empty list, with room for so many
pub record HasRoom {X A : Type 0} (count : ℕ) (v : Vec X A) : Type 0 where
  pub empty : v.items ≡ []
  pub room : count ≤ vec_capacity v

-- the events of the steps of each shard that are still stored, and all steps
abbrev pub stored_events : {A : Type 0} → List (Vec PlainEvent A) → List (List PlainEvent)
stored_events steps = map items_of steps

-- those that are stored where a history ends
abbrev pub stored_in : List HistoryEntry → List PlainEvent
stored_in entries = events_of (stored_of entries)

abbrev pub all_steps : List FrontView → List (List PlainStep)
all_steps fronts = map all_in fronts

-- a shard that was cut from its steps: it stands where they end
pub record IsClosed (o : HubOpening) (number : ℕ) (s : ShardView) (steps : List PlainStep) : Type 0 where
  pub shard : s.opening.shard ≡ number
  pub config : s.opening.config ≡ o.config
  pub states : s.states ≡ end_of (opening_at o number) steps
  pub history : IsHistory (opening_at o number) steps

-- so many of them
pub record AreClosed (o : HubOpening) (count : ℕ) (shards : List ShardView) (steps : List (List PlainStep))
    : Type 0 where
  pub shard_count : length shards ≡ count
  pub step_count : length steps ≡ count
  pub each : (k : ℕ) (s : ShardView) (ss : List PlainStep) → slice_get shards k ≡ Some s
      → slice_get steps k ≡ Some ss → IsClosed o k s ss
