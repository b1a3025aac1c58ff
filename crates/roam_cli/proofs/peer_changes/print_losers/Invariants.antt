use Rattle.roam_cli.specs.Printed.{IsPrinted}
use Rattle.roam_cli.proofs.peer_changes.print_losers.Given as goal

abbrev pub invariant-loop-prefix : goal.invariant-loop-prefix
invariant-loop-prefix g l = IsPrinted (g.W.Write.contents l.fn.writer) (g.W.Write.contents l.writer)
