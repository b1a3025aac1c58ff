use Rattle.roam_rules.proofs.LeastLemmas.{least-due_first, none-due_after}
use Rattle.roam_rules.proofs.laws.ticks_take_the_least_due_first.Goals as goal

pub returns-clause-least : goal.returns-clause-least
returns-clause-least c = least-due_first

pub returns-clause-none_after : goal.returns-clause-none_after
returns-clause-none_after c = none-due_after
