use Rattle.std.proofs.Common.{Option, Some, None, IfNone}
use Rattle.roam_reload.proofs.realms.other_difference.Goals as goal

if_none : {K P Q : Type 0} (o : Option K) → (P → Q) → IfNone o P → IfNone o Q
if_none None f p = f p
if_none (Some k) f p = tt

pub returns-in-None-part_difference-clause-none : goal.returns-in-None-part_difference-clause-none
returns-in-None-part_difference-clause-none c =
    if_none c.limit_difference.result
    (λ limits. (c.in-None.ensures.none, (c.in-None-part_difference.ensures.none, limits)))
    c.limit_difference.ensures.none
