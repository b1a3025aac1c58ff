-- The lines that were written are kept while the writer hands them on.
use Rattle.std.proofs.Common.{Err, ap, ◌∙◌}
use Rattle.roam_cli.proofs.OutcomeLemmas.{handed-on-runs, runs-fails, write-fails}
use Rattle.roam_cli.proofs.simulation.simulate.Goals as goal

pub returns-in-Ok-clause-ok : goal.returns-in-Ok-clause-ok
returns-in-Ok-clause-ok g c =
    handed-on-runs c.args.configuration.now c.args.script.now c.as_str.result.now c.as_str-2.result.now _
    (g.W.Write.contents c.sim.new.writer) _ c.finish.result c.as_str.ensures.value c.as_str-2.ensures.value
    c.in-Ok.ensures.ok c.finish.ensures.kept

-- A write was refused once both files were read.
pub returns-in-Ok-clause-err : goal.returns-in-Ok-clause-err
returns-in-Ok-clause-err g c =
    runs-fails c.args.configuration.now c.args.script.now c.as_str.result.now c.as_str-2.result.now _
    (g.W.Write.contents c.sim.new.writer) _ c.finish.result c.as_str.ensures.value c.as_str-2.ensures.value
    c.in-Ok.ensures.ok c.finish.ensures.err

pub returns-in-Err-Write-clause-err : goal.returns-in-Err-Write-clause-err
returns-in-Err-Write-clause-err g c =
    write-fails c.args.configuration.now c.args.script.now c.as_str.result.now c.as_str-2.result.now _ _ c.sim.result
    c.as_str.ensures.value c.as_str-2.ensures.value (c.in-Err-Write.is ∙ ap Err c.in-Err-Write.field-0-is)
    c.sim.ensures.write_accepted c.sim.ensures.write
