use Rattle.std.proofs.Common.{◌≤◌, ◌-◌}
use Rattle.roam_history.specs.Moments.{AreMoments}
use Rattle.roam_history.proofs.moment.parted.Given as goal

abbrev pub invariant-loop-middle : goal.invariant-loop-middle
invariant-loop-middle g l = record {
  moments : AreMoments l.shard.states l.few l.many;
  past : l.many ≤ l.now;
  from : l.quiet ≤ l.few;
}

abbrev pub decreases-loop-middle : goal.decreases-loop-middle
decreases-loop-middle g l = l.many - l.few
