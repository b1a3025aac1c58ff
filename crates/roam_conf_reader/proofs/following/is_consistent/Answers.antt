use Rattle.std.proofs.Common.{sym, ◌∙◌}
use Rattle.roam_conf.specs.Shown.{shown_parts}
use Rattle.roam_conf_reader.proofs.FaultLemmas.{all_consistent}
use Rattle.roam_conf_reader.proofs.following.is_consistent.Goals as goal

-- no first duplicate
pub returns-in-Ok-None : goal.returns-in-Ok-None
returns-in-Ok-None c = λ _.
    all_consistent (shown_parts c.args.parts.now) (sym c.in-Ok-None.ensures.ok ∙ c.in-Ok-None.field-0-is)
