use Rattle.roam_cli.proofs.PrintedLemmas.{kept_then, printed_more}
use Rattle.roam_cli.proofs.compare.print_realms_after.Goals as goal

-- both were printed, and handed on
pub returns : goal.returns
returns g c =
    let contents = g.W.Write.contents in
    let first = contents c.print_hindrance.new.writer in
    let both = contents c.print_changes.new.writer in
    kept_then (contents c.args.writer.now) both (contents c.flush.new.self) c.flush.result
    (printed_more (contents c.args.writer.now) first both c.in_ok-print_hindrance.ensures c.in_ok-print_changes.ensures)
    c.flush.ensures.bytes
