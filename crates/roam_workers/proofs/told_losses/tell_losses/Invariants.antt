use Rattle.std.proofs.Common.{◌≡◌}
use Rattle.roam_outgoing.specs.Counting.{counts_in}
use Rattle.roam_workers.proofs.told_losses.tell_losses.Given as goal

-- what is told changes nothing that is counted
abbrev pub invariant-loop-at : goal.invariant-loop-at
invariant-loop-at g l =
    (l.timer.context.seat ≡ l.fn.timer.context.seat)
    × (counts_in l.timer.context.counting ≡ counts_in l.fn.timer.context.counting)
    × (l.timer.context.outgoing ≡ l.fn.timer.context.outgoing)
