use Rattle.roam_cli.specs.Printed.{IsPrinted}
use Rattle.roam_cli.proofs.lost_places.print_lost_outs.Given as goal

abbrev pub invariant-loop-nth : goal.invariant-loop-nth
invariant-loop-nth g l = IsPrinted (g.W.Write.contents l.fn.writer) (g.W.Write.contents l.writer)
