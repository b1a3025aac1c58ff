use Rattle.roam_cli.proofs.PrintedLemmas.{printed_more}
use Rattle.roam_cli.proofs.watch.watch.Goals as goal

-- it was printed once more
pub loop-preserved : goal.loop-preserved
loop-preserved g c =
    let contents = g.W.Write.contents in
    printed_more (contents c.args.out.now) (contents c.loop.out) (contents c.print_anew.new.out) c.loop.invariant
    c.in-Ok-true.ensures.ok

-- and for the last time
pub returns-in-Ok-false-clause-ok : goal.returns-in-Ok-false-clause-ok
returns-in-Ok-false-clause-ok g c =
    let contents = g.W.Write.contents in
    printed_more (contents c.args.out.now) (contents c.loop.out) (contents c.print_anew.new.out) c.loop.invariant
    c.in-Ok-false.ensures.ok
