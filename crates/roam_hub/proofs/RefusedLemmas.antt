-- A call that a trace refuses.
use Rattle.std.proofs.Common.{◌≡◌, ◌≢◌, refl}
use Rattle.roam_shard.specs.declared.fault.TraceFault.{TraceFault}
use Rattle.roam_shard.specs.declared.fault.TraceFault.TheVariants as trace
use Rattle.roam_history.specs.declared.fault.HubFault.TheVariants as hub
use Rattle.roam_history.specs.Faults.{of_trace}

-- it is told as full only where it is
pub only_full : (f : TraceFault) → of_trace f ≡ hub.TraceFull → f ≡ trace.TraceFull
only_full trace.TraceFull h = refl
only_full trace.NoMemory h = absurd (let k : hub.NoMemory ≡ hub.TraceFull = h in cc)

-- and its shard is there
pub is_there : (f : TraceFault) → of_trace f ≢ hub.NoShard
is_there trace.TraceFull h = absurd (let k : hub.TraceFull ≡ hub.NoShard = h in cc)
is_there trace.NoMemory h = absurd (let k : hub.NoMemory ≡ hub.NoShard = h in cc)
