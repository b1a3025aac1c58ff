use Rattle.roam_wire.specs.Shown.{shown}
use Rattle.roam_crypto.proofs.SealPlaceLemmas.{found_is_one, not_one, searched_next, searched_now}
use Rattle.roam_crypto.proofs.seal_place.seal_place.Goals as goal

-- a second one, or one of another size
pub returns-in-None-place_after-clause-none : goal.returns-in-None-place_after-clause-none
returns-in-None-place_after-clause-none c =
    let why = c.in-None-place_after.ensures.none in
    not_one c.args.view.now _ (shown c.in-Some.attribute) _ _
    (searched_now _ _ _ _ _ c.in-Some.ensures.steps c.loop-attribute.invariant) why.0 why.1

-- the walk goes one attribute on
pub loop-attribute-preserved : goal.loop-attribute-preserved
loop-attribute-preserved c =
    searched_next _ _ (shown c.in-Some.attribute) _ _ _ c.in-Some-place_after.ensures.some
    (searched_now _ _ _ _ _ c.in-Some.ensures.steps c.loop-attribute.invariant)

-- what was met among all is the one
pub returns-clause-one : goal.returns-clause-one
returns-clause-one c =
    found_is_one c.args.view.now c.loop-attribute.attribute-iterator _ _ c.in-None.ensures.steps.0
    c.loop-attribute.invariant
