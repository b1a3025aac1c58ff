use Rattle.std.proofs.Common.{sym, refl, arith}
use Rattle.std.proofs.lemmas.Grind.{common_steps}
use Rattle.roam_wire.proofs.WalkLemmas.{IsSome-behind, none_at_front, IsSome-empty}
use Rattle.roam_wire.proofs.attribute_grammar.are_attributes.Goals as goal

-- one attribute on
pub loop-rest-preserved : goal.loop-rest-preserved
loop-rest-preserved c =
    let one_on = IsSome-behind _ _ (sym c.in-Some.ensures) in
    let so_far = c.loop-rest.invariant in
    (λ h. one_on.0 (so_far.0 h), λ h. so_far.1 (one_on.1 h))

-- octets are left, and no attribute stands at their front
pub returns-in-None : goal.returns-in-None
returns-in-None c = (
  λ h. absurd (cc h),
  λ h. absurd
      (none_at_front _ (λ e. grind (arith, common_steps)) (sym c.in-None.ensures) (c.loop-rest.invariant.0 h)),
)

-- nothing is left
pub returns : goal.returns
returns c = (λ h. c.loop-rest.invariant.1 (IsSome-empty _ (grind (arith, common_steps))), λ h. refl)
