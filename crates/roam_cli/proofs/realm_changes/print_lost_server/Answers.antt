use Rattle.roam_cli.proofs.PrintedLemmas.{printed_then}
use Rattle.roam_cli.proofs.realm_changes.print_lost_server.Goals as goal

-- one, and the other
pub returns : goal.returns
returns g c =
    let contents = g.W.Write.contents in
    let start = contents c.args.writer.now in
    let out-1 = contents c.print_lost_service.new.writer in
    printed_then start out-1 (contents c.print_lost_service-2.new.writer) c.print_lost_service-2.result
    c.in_ok-print_lost_service.ensures c.print_lost_service-2.ensures
