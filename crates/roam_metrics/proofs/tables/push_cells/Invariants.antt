use Rattle.std.proofs.Common.{◌≡◌, ◌++◌, take}
use Rattle.roam_metrics.specs.Tables.{cells_text}
use Rattle.roam_metrics.proofs.tables.push_cells.Given as goal

-- the cells so far
abbrev pub invariant-loop-cell : goal.invariant-loop-cell
invariant-loop-cell l = l.out.items ≡ l.initial.out.items ++ cells_text (take l.cell-index l.cells)
