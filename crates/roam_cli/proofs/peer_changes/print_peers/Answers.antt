use Rattle.roam_cli.proofs.PrintedLemmas.{printed_more}
use Rattle.roam_cli.proofs.peer_changes.print_peers.Goals as goal

-- one peer more
pub loop-index-preserved : goal.loop-index-preserved
loop-index-preserved g c =
    let contents = g.W.Write.contents in
    printed_more (contents c.args.writer.now) (contents c.loop-index.writer) (contents c.print_with_losers.new.writer)
    c.loop-index.invariant c.in_ok-print_with_losers.ensures
