use Rattle.std.proofs.Common.{◌≡◌, ◌++◌, replicate}
use Rattle.roam_metrics.proofs.tables.push_blanks.Given as goal

-- the blanks so far
abbrev pub invariant-loop : goal.invariant-loop
invariant-loop l = l.out.items ≡ l.initial.out.items ++ replicate l.counter 32
