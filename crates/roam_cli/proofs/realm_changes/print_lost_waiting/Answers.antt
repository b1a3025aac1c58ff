use Rattle.roam_cli.proofs.PrintedLemmas.{printed_then}
use Rattle.roam_cli.proofs.realm_changes.print_lost_waiting.Goals as goal

-- by its sockets, and then by its servers
pub returns-then-keeps_an_out : goal.returns-then-keeps_an_out
returns-then-keeps_an_out g c =
    let contents = g.W.Write.contents in
    let start = contents c.args.writer.now in
    let out-1 = contents c.print_lost_outs.new.writer in
    printed_then start out-1 (contents c.print_lost_servers.new.writer) c.print_lost_servers.result
    c.in_ok-print_lost_outs.ensures c.print_lost_servers.ensures
