use Rattle.roam_cli.proofs.PreventLemmas.{check-prevents-all}
use Rattle.roam_cli.proofs.UnreadLemmas.{unread-check-prevents}
use Rattle.roam_cli.proofs.check.check_file.Goals as goal

-- The file isn't read.
pub returns-in-Err-clause-err : goal.returns-in-Err-clause-err
returns-in-Err-clause-err g c =
    unread-check-prevents c.args.configuration.now (g.W.Write.contents c.args.out.now) c.in-Err.fault
    c.in-Err.ensures.err

-- It is read, and the check has a fault.
pub returns-in-Ok-clause-err : goal.returns-in-Ok-clause-err
returns-in-Ok-clause-err g c =
    check-prevents-all c.in-Ok.file c.args.configuration _ _ c.check.result c.in-Ok.ensures.ok c.check.ensures.err
