use Rattle.std.proofs.Common.{List, length, sym, ap, ◌∙◌}
use Rattle.roam_wire.specs.Packet.{Attribute, attributes_text}
use Rattle.roam_wire.specs.Shown.{shown}
use Rattle.roam_forward.specs.Removal.{removed_by}
use Rattle.roam_reply.specs.Returned.{is_own}
use Rattle.roam_reply.proofs.PassingLemmas.{own_piece-gone, own_piece-kept}
use Rattle.roam_reply.proofs.plain_packet.piece_len.Goals as goal

pub returns-then-is_kept : goal.returns-then-is_kept
returns-then-is_kept c =
    c.passed_len.ensures.all
    ∙ ap (λ (l : List Attribute). length (attributes_text l))
    (sym (own_piece-kept c.args.terms.access (removed_by c.args.terms.removal.now)
    (is_own c.args.terms.own c.args.terms.request.now)
    (shown c.args.attribute.now)
    (sym c.is_kept.ensures ∙ c.if-is_kept.true)))

pub returns-else-is_kept : goal.returns-else-is_kept
returns-else-is_kept c =
    ap (λ (l : List Attribute). length (attributes_text l))
    (sym (own_piece-gone c.args.terms.access (removed_by c.args.terms.removal.now)
    (is_own c.args.terms.own c.args.terms.request.now)
    (shown c.args.attribute.now)
    (sym c.is_kept.ensures ∙ c.if-is_kept.false)))
