use Rattle.roam_cli.specs.Printed.{IsPrinted}
use Rattle.roam_cli.proofs.realm_changes.print_lost_servers.Given as goal

abbrev pub invariant-loop-place : goal.invariant-loop-place
invariant-loop-place g l = IsPrinted (g.W.Write.contents l.fn.writer) (g.W.Write.contents l.writer)
