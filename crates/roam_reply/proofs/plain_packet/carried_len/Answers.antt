use Rattle.std.proofs.Common.{◌≤◌, ◌+◌, arith}
use Rattle.roam_wire.specs.Shown.{shown}
use Rattle.roam_forward.specs.Removal.{removed_by}
use Rattle.roam_reply.specs.Returned.{is_own}
use Rattle.roam_reply.proofs.PassingLemmas.{IsCountedBack-end, IsCountedBack-more, IsCountedBack-within}
use Rattle.roam_reply.proofs.plain_packet.carried_len.Goals as goal

-- what is counted, with what is returned of this attribute, stays within the packet
pub overflow_add-size : goal.overflow_add-size
overflow_add-size c =
    let next = IsCountedBack-more c.args.terms.access (removed_by c.args.terms.removal.now)
    (is_own c.args.terms.own c.args.terms.request.now)
    c.args.reply.now.attributes _ _
    (shown c.in-Some.attribute) c.loop-attribute.size c.piece_len-size.result c.in-Some.ensures.steps
    c.piece_len-size.ensures c.loop-attribute.invariant in
    let within : c.loop-attribute.size + c.piece_len-size.result ≤ 4076 =
    IsCountedBack-within _ _ _ _ _ _ next c.attributes-attribute-items.ensures.packet.attributes
    c.attributes-attribute-items.ensures.packet.size in
    omega (arith, within)

pub loop-attribute-preserved : goal.loop-attribute-preserved
loop-attribute-preserved c =
    IsCountedBack-more c.args.terms.access (removed_by c.args.terms.removal.now)
    (is_own c.args.terms.own c.args.terms.request.now)
    c.args.reply.now.attributes _ _
    (shown c.in-Some.attribute) c.loop-attribute.size c.piece_len-size.result c.in-Some.ensures.steps
    c.piece_len-size.ensures c.loop-attribute.invariant

-- where none is left, all is counted
pub returns-clause-all : goal.returns-clause-all
returns-clause-all c = IsCountedBack-end _ _ _ _ _ _ c.in-None.ensures.steps.0 c.loop-attribute.invariant

pub returns-clause-few : goal.returns-clause-few
returns-clause-few c =
    IsCountedBack-within _ _ _ _ _ _ c.loop-attribute.invariant c.attributes-attribute-items.ensures.packet.attributes
    c.attributes-attribute-items.ensures.packet.size
