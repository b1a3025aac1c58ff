-- The counts rose by the conversations that were gone through.
use Rattle.std.proofs.Common.{◌≡◌, take}
use Rattle.roam_counters.specs.OwnCounts.{raised_all}
use Rattle.roam_outgoing.specs.Counting.{counts_in, left_counted}
use Rattle.roam_outgoing.proofs.counting.Counting.left.Given as goal

abbrev pub invariant-loop-conversation : goal.invariant-loop-conversation
invariant-loop-conversation l =
    counts_in l.self ≡ raised_all (counts_in l.fn.self) (left_counted (take l.conversation-index l.left))
