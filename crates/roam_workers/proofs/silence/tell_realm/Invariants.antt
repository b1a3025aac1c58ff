use Rattle.std.proofs.Common.{◌≡◌}
use Rattle.roam_outgoing.specs.Counting.{counts_in}
use Rattle.roam_workers.proofs.silence.tell_realm.Given as goal

-- what is told changes nothing that is counted
abbrev pub invariant-loop-place : goal.invariant-loop-place
invariant-loop-place g l =
    (l.context.seat ≡ l.fn.context.seat) × (counts_in l.context.counting ≡ counts_in l.fn.context.counting)
    × (l.context.outgoing ≡ l.fn.context.outgoing)
