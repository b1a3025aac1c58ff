use Rattle.std.proofs.Common.{ℕ, Option}
use Rattle.roam_sessions.specs.Maps.{ends_at}
use Rattle.roam_sessions.specs.declared.neighbours.Beside.{Beside}
use Rattle.roam_sessions.proofs.LargestLemmas.{IsBest}
use Rattle.roam_sessions.proofs.ends.oldest_of_largest.Given as goal

-- the best one so far is a group's, and none that was looked at is larger
abbrev pub invariant-loop-i : goal.invariant-loop-i
invariant-loop-i g l =
    (beside : ℕ → Option Beside)
    → IsBest (record { ends = ends_at l.map; beside = beside }) l.map.entries l.i l.best
