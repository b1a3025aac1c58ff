use Rattle.std.proofs.Common.{rules}
use Rattle.roam_wire.specs.Shown.{shown}
use Rattle.roam_crypto.proofs.SealingLemmas.{IsAt-more, IsAt-next}
use Rattle.roam_crypto.proofs.pieces.value_place.Goals as goal

-- the walk goes one attribute on
pub loop-attribute-preserved : goal.loop-attribute-preserved
loop-attribute-preserved c =
    IsAt-more _ _ (shown c.in-Some.attribute) _ (search rules)
    (IsAt-next _ _ _ _ c.in-Some.ensures.steps c.loop-attribute.invariant)
