use Rattle.std.proofs.Common.{◌≡◌, replicate}
use Rattle.roam_core.specs.Openings.{first_start}
use Rattle.roam_shard.proofs.opening.first_starts.Given as goal

abbrev pub invariant-loop-realm : goal.invariant-loop-realm
invariant-loop-realm g l = l.starts.items ≡ replicate l._realm first_start
