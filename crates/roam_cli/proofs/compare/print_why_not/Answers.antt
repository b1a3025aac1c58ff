use Rattle.roam_cli.proofs.PrintedLemmas.{kept_then}
use Rattle.roam_cli.proofs.compare.print_why_not.Goals as goal

-- it was printed, and handed on
pub returns : goal.returns
returns g c =
    let contents = g.W.Write.contents in
    kept_then (contents c.args.writer.now) (contents c.print_hindrance.new.writer) (contents c.flush.new.self)
    c.flush.result c.in_ok-print_hindrance.ensures c.flush.ensures.bytes
