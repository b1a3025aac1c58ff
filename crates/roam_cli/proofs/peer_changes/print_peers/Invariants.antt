use Rattle.roam_cli.specs.Printed.{IsPrinted}
use Rattle.roam_cli.proofs.peer_changes.print_peers.Given as goal

abbrev pub invariant-loop-index : goal.invariant-loop-index
invariant-loop-index g l = IsPrinted (g.W.Write.contents l.fn.writer) (g.W.Write.contents l.writer)
