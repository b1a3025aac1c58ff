use Rattle.roam_cli.specs.Printed.{IsPrinted}
use Rattle.roam_cli.proofs.changes.print_realms.Given as goal

abbrev pub invariant-loop-realm : goal.invariant-loop-realm
invariant-loop-realm g l = IsPrinted (g.W.Write.contents l.fn.writer) (g.W.Write.contents l.writer)
