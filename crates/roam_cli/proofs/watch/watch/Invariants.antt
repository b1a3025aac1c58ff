use Rattle.roam_cli.specs.Printed.{IsPrinted}
use Rattle.roam_cli.proofs.watch.watch.Given as goal

-- something was printed so far
abbrev pub invariant-loop : goal.invariant-loop
invariant-loop g l = IsPrinted (g.W.Write.contents l.fn.out) (g.W.Write.contents l.out)
