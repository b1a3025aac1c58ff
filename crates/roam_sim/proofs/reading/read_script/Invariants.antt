use Rattle.roam_core.specs.Shown.{shown_events}
use Rattle.roam_sim.proofs.ScriptLemmas.{IsReadOn}
use Rattle.roam_sim.proofs.reading.read_script.Given as goal

abbrev pub invariant-loop-line : goal.invariant-loop-line
invariant-loop-line g l = IsReadOn l.fn.text l.line-iterator l.number (shown_events l.events.items) l.is_short
