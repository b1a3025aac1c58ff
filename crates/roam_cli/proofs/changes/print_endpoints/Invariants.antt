use Rattle.roam_cli.specs.Printed.{IsPrinted}
use Rattle.roam_cli.proofs.changes.print_endpoints.Given as goal

abbrev pub invariant-loop-nth : goal.invariant-loop-nth
invariant-loop-nth g l = IsPrinted (g.W.Write.contents l.fn.writer) (g.W.Write.contents l.writer)
