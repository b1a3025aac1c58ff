use Rattle.roam_cli.proofs.PreventLemmas.{compare-prevents-all}
use Rattle.roam_cli.proofs.UnreadLemmas.{unread-next-prevents, unread-old-prevents}
use Rattle.roam_cli.proofs.CompareLemmas.{compared}
use Rattle.roam_cli.proofs.compare.compare_files.Goals as goal

-- The first configuration isn't read.
pub returns-in_err-configuration-clause-err : goal.returns-in_err-configuration-clause-err
returns-in_err-configuration-clause-err g c =
    unread-old-prevents c.args.configuration c.args.next.now _ c.in_err-configuration.field-0.0 c.read.result
    c.from_residual.result c.in_err-configuration.was c.from_residual.ensures.1 c.read.ensures.err

-- The second one isn't read.
pub returns-in_err-next-clause-err : goal.returns-in_err-next-clause-err
returns-in_err-next-clause-err g c =
    unread-next-prevents c.args.configuration.now c.args.next _ c.in_err-next.field-0.0 c.read-2.result
    c.from_residual-in_err-next.result c.in_err-next.was c.from_residual-in_err-next.ensures.1 c.read-2.ensures.err

-- Both are read, and compared.
pub returns-clause-ok : goal.returns-clause-ok
returns-clause-ok g c =
    compared c.in_ok-configuration.configuration c.in_ok-next.next c.args.configuration.now c.args.next.now _ _
    c.compare.result
    c.compare.ensures.may c.compare.ensures.printed

-- Both are read, and the comparison has a fault.
pub returns-clause-err : goal.returns-clause-err
returns-clause-err g c =
    compare-prevents-all c.in_ok-configuration.configuration c.in_ok-next.next c.args.configuration c.args.next _ _
    c.compare.result c.in_ok-configuration.ensures.ok c.in_ok-next.ensures.ok c.compare.ensures.err
