use Rattle.roam_cli.proofs.PrintedLemmas.{printed_more, printed_then}
use Rattle.roam_cli.proofs.realm_changes.print_lost.Goals as goal

-- each part behind the one before it
pub returns : goal.returns
returns g c =
    let contents = g.W.Write.contents in
    let start = contents c.args.writer.now in
    let out-1 = contents c.print_lost_waiting.new.writer in
    let out-2 = contents c.print_lost_reverse.new.writer in
    let out-3 = contents c.print_lost_sessions.new.writer in
    let all-2 = printed_more start out-1 out-2 c.in_ok-print_lost_waiting.ensures c.in_ok-print_lost_reverse.ensures in
    let all-3 = printed_more start out-2 out-3 all-2 c.in_ok-print_lost_sessions.ensures in
    printed_then start out-3 (contents c.print_lost_replies.new.writer) c.print_lost_replies.result
    all-3 c.print_lost_replies.ensures
