use Rattle.roam_cli.proofs.PrintedLemmas.{printed_more}
use Rattle.roam_cli.proofs.changes.print_realms.Goals as goal

-- one realm more
pub loop-realm-preserved : goal.loop-realm-preserved
loop-realm-preserved g c =
    let contents = g.W.Write.contents in
    printed_more (contents c.args.writer.now) (contents c.loop-realm.writer) (contents c.print_realm.new.writer)
    c.loop-realm.invariant c.in_ok-print_realm.ensures
