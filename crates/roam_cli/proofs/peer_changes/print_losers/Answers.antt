use Rattle.roam_cli.proofs.PrintedLemmas.{printed_more}
use Rattle.roam_cli.proofs.peer_changes.print_losers.Goals as goal

-- the loser of one prefix more
pub loop-prefix-preserved : goal.loop-prefix-preserved
loop-prefix-preserved g c =
    let contents = g.W.Write.contents in
    printed_more (contents c.args.writer.now) (contents c.loop-prefix.writer) (contents c.print_loser.new.writer)
    c.loop-prefix.invariant c.in_ok-print_loser.ensures
