use Rattle.roam_cli.proofs.PrintedLemmas.{printed_more, printed_then}
use Rattle.roam_cli.proofs.realm_changes.print_carried.Goals as goal

-- each part behind the one before it
pub returns : goal.returns
returns g c =
    let contents = g.W.Write.contents in
    let start = contents c.args.writer.now in
    let out-1 = contents c.print_name.new.writer in
    let out-2 = contents c.print_keys.new.writer in
    let all-2 = printed_more start out-1 out-2 c.in_ok-print_name.ensures c.in_ok-print_keys.ensures in
    printed_then start out-2 (contents c.print_counts.new.writer) c.print_counts.result
    all-2 c.print_counts.ensures
