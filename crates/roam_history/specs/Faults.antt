-- The answer to a hub's call where a trace stores nothing (ours).
use Rattle.roam_shard.specs.declared.fault.TraceFault.{TraceFault}
use Rattle.roam_shard.specs.declared.fault.TraceFault.TheVariants as trace
use Rattle.roam_wire.specs.declared.refusal.Refusal.{Refusal}
use Rattle.roam_wire.specs.declared.refusal.Refusal.TheVariants as refusal
use Rattle.roam_history.specs.declared.fault.HubFault.{HubFault}
use Rattle.roam_history.specs.declared.fault.HubFault.TheVariants as hub

abbrev pub of_trace : TraceFault → HubFault
of_trace trace.TraceFull = hub.TraceFull
of_trace trace.NoMemory = hub.NoMemory

-- the refusal that a hub's fault is told as
abbrev pub refusal_of : HubFault → Refusal
refusal_of hub.NoShard = refusal.NoShard
refusal_of hub.Misplaced = refusal.Misplaced
refusal_of hub.TraceFull = refusal.TraceFull
refusal_of hub.NoMemory = refusal.NoMemory
