use Rattle.roam_cli.proofs.PrintedLemmas.{printed_then}
use Rattle.roam_cli.proofs.realm_changes.print_going.Goals as goal

-- one, and the other
pub returns : goal.returns
returns g c =
    let contents = g.W.Write.contents in
    let start = contents c.args.writer.now in
    let out-1 = contents c.print_carried.new.writer in
    printed_then start out-1 (contents c.print_lost.new.writer) c.print_lost.result
    c.in_ok-print_carried.ensures c.print_lost.ensures
