use Rattle.roam_cli.proofs.PrintedLemmas.{printed_more}
use Rattle.roam_cli.proofs.realm_changes.print_lost_servers.Goals as goal

-- one server more
pub loop-place-preserved : goal.loop-place-preserved
loop-place-preserved g c =
    let contents = g.W.Write.contents in
    printed_more (contents c.args.writer.now) (contents c.loop-place.writer) (contents c.print_lost_place.new.writer)
    c.loop-place.invariant c.in_ok-print_lost_place.ensures
