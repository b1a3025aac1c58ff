use Rattle.roam_log.specs.Repeats.{AreEmptyBelow}
use Rattle.roam_log.proofs.repeats.Repeats.first_row.Given as goal

-- the rows so far are empty
abbrev pub invariant-loop-i : goal.invariant-loop-i
invariant-loop-i l = AreEmptyBelow l.self l.i
