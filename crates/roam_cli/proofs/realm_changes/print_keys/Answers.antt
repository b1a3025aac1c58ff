use Rattle.roam_cli.proofs.PrintedLemmas.{printed_more}
use Rattle.roam_cli.proofs.realm_changes.print_keys.Goals as goal

-- one key more
pub loop-key-preserved : goal.loop-key-preserved
loop-key-preserved g c =
    let contents = g.W.Write.contents in
    printed_more (contents c.args.writer.now) (contents c.loop-key.writer) (contents c.print_key.new.writer)
    c.loop-key.invariant c.in_ok-print_key.ensures
