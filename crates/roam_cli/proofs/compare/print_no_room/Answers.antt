use Rattle.roam_cli.proofs.PrintedLemmas.{kept_then}
use Rattle.roam_cli.proofs.compare.print_no_room.Goals as goal

-- it was printed, and handed on
pub returns : goal.returns
returns g c =
    let contents = g.W.Write.contents in
    kept_then (contents c.args.writer.now) (contents c.print_no_number.new.writer) (contents c.flush.new.self)
    c.flush.result c.in_ok-print_no_number.ensures c.flush.ensures.bytes
