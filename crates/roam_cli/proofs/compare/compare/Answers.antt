use Rattle.roam_conf.specs.Shown.{shown}
use Rattle.roam_cli.specs.CommandFaults.{text_in}
use Rattle.roam_cli.proofs.CompareLemmas.{first_fails, follows, second_fails}
use Rattle.roam_cli.proofs.compare.compare.Goals as goal

pub returns-in-Err-clause-err : goal.returns-in-Err-clause-err
returns-in-Err-clause-err g c =
    let out = g.W.Write.contents c.args.writer.now in
    first_fails c.args.configuration.now c.args.next.now out c.in-Err.fault (c.in-Err.ensures.err out)

pub returns-in-Err-configuration_in-clause-err : goal.returns-in-Err-configuration_in-clause-err
returns-in-Err-configuration_in-clause-err g c =
    let out = g.W.Write.contents c.args.writer.now in
    second_fails c.args.configuration.now c.args.next.now out c.in-Err-configuration_in.fault
    (c.in-Err-configuration_in.ensures.err out)

-- both were read, and compared
pub returns-clause-may : goal.returns-clause-may
returns-clause-may g c =
    follows (text_in c.args.configuration.now) (text_in c.args.next.now) (shown c.in-Ok.old)
    (shown c.in-Ok-configuration_in.new) c.print_comparison.result c.in-Ok.ensures.ok
    c.in-Ok-configuration_in.ensures.ok c.print_comparison.ensures.may

pub returns-clause-err : goal.returns-clause-err
returns-clause-err g c =
    c.print_comparison.ensures.err c.args.configuration.now c.in-Ok.ensures.ok c.in-Ok-configuration_in.ensures.ok
