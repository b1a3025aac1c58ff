use Rattle.roam_cli.specs.Printed.{IsPrinted}
use Rattle.roam_cli.proofs.realm_changes.print_keys.Given as goal

abbrev pub invariant-loop-key : goal.invariant-loop-key
invariant-loop-key g l = IsPrinted (g.W.Write.contents l.fn.writer) (g.W.Write.contents l.writer)
