use Rattle.roam_cli.proofs.PrintedLemmas.{printed_more}
use Rattle.roam_cli.proofs.lost_places.print_lost_outs.Goals as goal

-- one `out` more
pub loop-nth-preserved : goal.loop-nth-preserved
loop-nth-preserved g c =
    let contents = g.W.Write.contents in
    printed_more (contents c.args.writer.now) (contents c.loop-nth.writer) (contents c.print_lost_out.new.writer)
    c.loop-nth.invariant c.in_ok-print_lost_out.ensures
