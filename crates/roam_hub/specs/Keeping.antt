-- The contents of a shard's lock: words of private functions alone (ours).
use Rattle.std.specs.Prelude.{◌≡◌, ◌<◌, ◌-◌, ◌^◌, length}
use Rattle.roam_shard.specs.History.{Ends, TraceView, stored_steps}
use Rattle.roam_history.specs.Entries.{IsOpen, gone_of, stored_of}
use Rattle.roam_history.specs.Fronts.{FrontView}
use Rattle.roam_history.specs.HubOpening.{HubOpening}

-- a trace, and the whole history of its shard
pub record KeptView : Type 0 where
  pub trace : TraceView
  pub front : FrontView

-- the trace is one of the hub, and ends the whole history, which isn't closed and has room for the entry that closes it
pub record IsKept (o : HubOpening) (k : KeptView) : Type 0 where
  pub shard : k.trace.opening.shard ≡ k.front.shard
  pub config : k.trace.opening.config ≡ o.config
  pub limit : k.trace.limit ≡ o.config.trace_limit
  pub ends : Ends k.trace (o.states k.front.shard) (gone_of k.front.entries)
  pub stored : stored_steps k.trace (o.states k.front.shard) (gone_of k.front.entries) ≡ stored_of k.front.entries
  pub gone : k.trace.gone ≡ length (gone_of k.front.entries)
  pub is_open : IsOpen k.front.entries
  pub room : length k.front.entries < 2 ^ 64 - 1
