-- What was printed are the lines before the one that comes.
use Rattle.std.proofs.Common.{take}
use Rattle.std.specs.Io.KnownBytes.{Appends}
use Rattle.roam_diagnosis.specs.Lines.{printed}
use Rattle.roam_diagnosis.proofs.lines.print_each.Given as goal

abbrev pub invariant-loop-line : goal.invariant-loop-line
invariant-loop-line g l =
    Appends (g.W.Write.contents l.initial.writer) (g.W.Write.contents l.writer) (printed (take l.line-index l.lines))
