use Rattle.std.proofs.Common.{List, ℕ, ◌++◌, length, sym, ap, ◌∙◌, arith, append-nil}
use Rattle.roam_wire.specs.Packet.{Attribute, attributes_text}
use Rattle.roam_wire.specs.Shown.{shown}
use Rattle.roam_forward.specs.Removal.{removed_by}
use Rattle.roam_reply.specs.Returned.{is_own}
use Rattle.roam_reply.proofs.PassingLemmas.{own_piece-gone, own_piece-kept}
use Rattle.roam_reply.proofs.plain_packet.append_piece.Goals as goal

-- what passes of it is returned
pub append_passed-requires-clause-room : goal.append_passed-requires-clause-room
append_passed-requires-clause-room g c =
    let is = own_piece-kept c.args.terms.access (removed_by c.args.terms.removal.now)
    (is_own c.args.terms.own c.args.terms.request.now)
    (shown c.args.attribute)
    (sym c.is_kept.ensures ∙ c.if-is_kept.true) in
    omega (arith, c.requires.room, ap (λ (l : List Attribute). length (attributes_text l)) is)

pub returns-then-is_kept-clause-items : goal.returns-then-is_kept-clause-items
returns-then-is_kept-clause-items g c =
    let is = own_piece-kept c.args.terms.access (removed_by c.args.terms.removal.now)
    (is_own c.args.terms.own c.args.terms.request.now)
    (shown c.args.attribute)
    (sym c.is_kept.ensures ∙ c.if-is_kept.true) in
    c.append_passed.ensures.items
    ∙ ap (λ (l : List Attribute). c.args.out.now.items ++ attributes_text l) (sym is)

-- or nothing is
pub returns-else-is_kept-clause-items : goal.returns-else-is_kept-clause-items
returns-else-is_kept-clause-items g c =
    let out : List ℕ = c.args.out.now.items in
    let is = own_piece-gone c.args.terms.access (removed_by c.args.terms.removal.now)
    (is_own c.args.terms.own c.args.terms.request.now)
    (shown c.args.attribute)
    (sym c.is_kept.ensures ∙ c.if-is_kept.false) in
    sym (ap (λ (l : List Attribute). out ++ attributes_text l) is ∙ append-nil out)
