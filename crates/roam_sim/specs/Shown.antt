-- Lines as the definitions see them, without allocators.
use Rattle.roam_core.specs.Shown.{shown_event}
use Rattle.roam_sim.specs.Script.{LineMeaning, skipped, states, faulty}
use Rattle.roam_sim.specs.declared.script.ScriptLine.{ScriptLine}
use Rattle.roam_sim.specs.declared.script.ScriptLine.TheVariants as line

abbrev pub shown_line : {A : Type 0} → ScriptLine A → LineMeaning
shown_line line.Skipped = skipped
shown_line (line.Event e) = states (shown_event e)
shown_line line.Faulty = faulty
