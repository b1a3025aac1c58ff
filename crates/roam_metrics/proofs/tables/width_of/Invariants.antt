use Rattle.std.proofs.Common.{All, take}
use Rattle.roam_metrics.specs.Tables.{Fits}
use Rattle.roam_metrics.proofs.tables.width_of.Given as goal

-- the cells so far fit
abbrev pub invariant-loop-row : goal.invariant-loop-row
invariant-loop-row l = All (Fits l.at l.width) (take l.row-index l.rows)
