use Rattle.roam_cli.proofs.PrintedLemmas.{printed_more, printed_then}
use Rattle.roam_cli.proofs.changes.print_changes.Goals as goal

-- each part behind the one before it
pub returns : goal.returns
returns g c =
    let contents = g.W.Write.contents in
    let start = contents c.args.writer.now in
    let out-1 = contents c.print_endpoints.new.writer in
    let out-2 = contents c.print_endpoints-2.new.writer in
    let out-3 = contents c.print_peers.new.writer in
    let all-2 = printed_more start out-1 out-2 c.in_ok-print_endpoints.ensures c.in_ok-print_endpoints-2.ensures in
    let all-3 = printed_more start out-2 out-3 all-2 c.in_ok-print_peers.ensures in
    printed_then start out-3 (contents c.print_realms.new.writer) c.print_realms.result
    all-3 c.print_realms.ensures
