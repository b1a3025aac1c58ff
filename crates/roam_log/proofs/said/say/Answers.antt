use Rattle.std.proofs.Common.{sym, subst, ◌∙◌}
use Rattle.roam_log.specs.Said as spec
use Rattle.roam_log.proofs.said.say.Goals as goal

pub returns-in-Err-clause-says : goal.returns-in-Err-clause-says
returns-in-Err-clause-says c =
    subst (λ request. spec.IsSaidBy request c.say_nothing.new.exchange) (sym c.in-Err.is ∙ c.read.ensures.answer)
    (c.say_nothing.ensures.says c.in-Err.field-0)
