-- A shard stands at the end of a history of no steps.
use Rattle.std.proofs.Common.{◌-◌, ◌<◌, ◌^◌, refl, arith}
use Rattle.roam_shard.proofs.HistoryLemmas.{new_trace}
use Rattle.roam_shard.proofs.traced.Traced.new.Goals as goal

pub invariant_of-result : goal.invariant_of-result
invariant_of-result g c =
    let none = c.new.ensures.items in
    let size : c.args.limit < 2 ^ 64 = omega (arith, c.ranges.limit.fits) in (
      new_trace c.args.shard.opening c.args.shard.states c.new.result.items c.args.limit none size,
      rw none refl,
    )
