use Rattle.roam_cli.proofs.PreventLemmas.{run-prevents-all}
use Rattle.roam_cli.proofs.UnreadLemmas.{unread-configuration-prevents, unread-script-prevents}
use Rattle.roam_cli.proofs.simulation.simulate_files.Goals as goal

-- The configuration isn't read.
pub returns-in_err-configuration-clause-err : goal.returns-in_err-configuration-clause-err
returns-in_err-configuration-clause-err g c =
    unread-configuration-prevents c.args.configuration c.args.script.now _ c.in_err-configuration.field-0.0
    c.read.result
    c.from_residual.result c.in_err-configuration.was c.from_residual.ensures.1 c.read.ensures.err

-- The script isn't read.
pub returns-in_err-script-clause-err : goal.returns-in_err-script-clause-err
returns-in_err-script-clause-err g c =
    unread-script-prevents c.args.configuration.now c.args.script _ c.in_err-script.field-0.0 c.read-2.result
    c.from_residual-in_err-script.result c.in_err-script.was c.from_residual-in_err-script.ensures.1
    c.read-2.ensures.err

-- Both are read, and the simulation has a fault.
pub returns-clause-err : goal.returns-clause-err
returns-clause-err g c =
    run-prevents-all c.in_ok-configuration.configuration c.in_ok-script.script c.args.configuration c.args.script _ _
    c.simulate.result c.in_ok-configuration.ensures.ok c.in_ok-script.ensures.ok c.simulate.ensures.err
