-- The file's text is what was read, and its configuration what was printed; or it is refused, and nothing is printed.
use Rattle.roam_conf.specs.Shown.{shown}
use Rattle.roam_cli.proofs.OutcomeLemmas.{printed-checks, printed-fails, unread-fails}
use Rattle.roam_cli.proofs.check.check.Goals as goal

pub returns-in-Ok-clause-ok : goal.returns-in-Ok-clause-ok
returns-in-Ok-clause-ok g c =
    printed-checks c.args.configuration.now c.as_str.result.now (shown c.in-Ok.config) _ _ c.print_summary.result
    c.as_str.ensures.value c.in-Ok.ensures.ok c.in-Ok.ensures.faultless c.print_summary.ensures.ok

pub returns-in-Ok-clause-err : goal.returns-in-Ok-clause-err
returns-in-Ok-clause-err g c =
    printed-fails c.args.configuration.now c.as_str.result.now (shown c.in-Ok.config) _ _ c.print_summary.result
    c.as_str.ensures.value c.in-Ok.ensures.ok c.in-Ok.ensures.faultless c.print_summary.ensures.err

pub returns-in-Err-clause-err : goal.returns-in-Err-clause-err
returns-in-Err-clause-err g c =
    unread-fails c.args.configuration.now c.as_str.result.now (g.W.Write.contents c.args.writer.now) c.in-Err.fault
    c.of_configuration.result c.as_str.ensures.value c.in-Err.ensures.err c.of_configuration.ensures.memory
    c.of_configuration.ensures.refused
