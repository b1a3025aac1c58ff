use Rattle.std.proofs.Common.{◌+◌, ◌≤◌, length, sym, ◌∙◌, arith}
use Rattle.roam_wire.specs.Shown.{shown}
use Rattle.roam_wire.proofs.KeptLemmas.{IsCount-kept}
use Rattle.roam_forward.specs.Removal.{removed_by}
use Rattle.roam_forward.proofs.LeftLemmas.{counted-within}
use Rattle.roam_forward.proofs.sub_attributes.left_len.Goals as goal

-- what is counted, with this sub-attribute, stays within the octets
pub overflow_add-size-then-is_left : goal.overflow_add-size-then-is_left
overflow_add-size-then-is_left c =
    let next = IsCount-kept _ _ _ _ (shown c.in-Some-sub.sub) _ c.in-Some-sub.ensures.steps (sym c.is_left.ensures
    ∙ c.if-is_left.true) c.loop-sub.invariant in
    let within : c.loop-sub.size + (2 + length c.in-Some-sub.sub.value.now) ≤ length c.args.octets.now =
    counted-within (removed_by c.args.removal.now) c.args.vendor c.args.octets.now c.in-Some.subs c.next.new.self _
    (λ i. omega (arith, c.type_inv.octets i)) (sym c.read.ensures ∙ c.in-Some.is) next in
    omega (arith, within, c.requires)

-- and so does all of it
pub returns-in-None-clause-few : goal.returns-in-None-clause-few
returns-in-None-clause-few c =
    counted-within (removed_by c.args.removal.now) c.args.vendor c.args.octets.now c.in-Some.subs
    c.loop-sub.sub-iterator c.loop-sub.size (λ i. omega (arith, c.type_inv.octets i))
    (sym c.read.ensures ∙ c.in-Some.is) c.loop-sub.invariant
