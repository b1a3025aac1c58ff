use Rattle.roam_cli.proofs.PreventLemmas.{state-prevents-all}
use Rattle.roam_cli.proofs.UnreadLemmas.{unread-state-prevents}
use Rattle.roam_cli.proofs.restating.state_file.Goals as goal

-- The file isn't read.
pub returns-in-Err-clause-err : goal.returns-in-Err-clause-err
returns-in-Err-clause-err g c =
    unread-state-prevents c.args.configuration.now (g.W.Write.contents c.args.out.now) c.in-Err.fault
    c.in-Err.ensures.err

-- It is read, and isn't stated anew.
pub returns-in-Ok-clause-err : goal.returns-in-Ok-clause-err
returns-in-Ok-clause-err g c =
    state-prevents-all c.in-Ok.file c.args.configuration _ _ c.state_anew.result c.in-Ok.ensures.ok
    c.state_anew.ensures.err
