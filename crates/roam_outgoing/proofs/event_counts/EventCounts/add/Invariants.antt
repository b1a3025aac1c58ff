-- The counts rose by those that were gone through.
use Rattle.std.proofs.Common.{◌≡◌, take}
use Rattle.roam_counters.specs.OwnCounts.{raised_all}
use Rattle.roam_outgoing.proofs.event_counts.EventCounts.add.Given as goal

abbrev pub invariant-loop-increment : goal.invariant-loop-increment
invariant-loop-increment l =
    l.self.own ≡ raised_all l.fn.self.own (take l.increment-index l.increments)
