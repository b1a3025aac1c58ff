-- One more line was printed.
use Rattle.std.proofs.Common.{arith}
use Rattle.roam_diagnosis.proofs.LinesLemmas.{printed_next}
use Rattle.roam_diagnosis.proofs.lines.print_each.Goals as goal

pub loop-line-preserved : goal.loop-line-preserved
loop-line-preserved g c =
    printed_next c.args.lines.now c.line-item.result c.loop-line.line-index _ _ _ (omega arith) c.line-item.is
    c.loop-line.invariant c.in_ok-print_line.ensures
