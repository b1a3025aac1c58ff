use Rattle.roam_cli.proofs.PrintedLemmas.{printed_then}
use Rattle.roam_cli.proofs.peer_changes.print_with_losers.Goals as goal

-- what becomes of the peer, and behind it which ones lose addresses
pub returns : goal.returns
returns g c =
    let contents = g.W.Write.contents in
    printed_then (contents c.args.writer.now) (contents c.print_peer_since.new.writer)
    (contents c.print_losers.new.writer) c.print_losers.result c.in_ok-print_peer_since.ensures c.print_losers.ensures
