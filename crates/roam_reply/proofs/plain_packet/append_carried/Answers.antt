use Rattle.std.proofs.Common.{◌≡◌, ◌∙◌, length, vec_len, arith}
use Rattle.roam_wire.specs.Shown.{shown}
use Rattle.roam_reply.proofs.PassingLemmas.{IsReturning-end, IsReturning-more, IsReturning-room}
use Rattle.roam_reply.proofs.plain_packet.append_carried.Goals as goal

-- there is room for what is returned of this attribute
pub append_piece-requires-clause-room : goal.append_piece-requires-clause-room
append_piece-requires-clause-room g c =
    IsReturning-room _ _ _ _ _ _ _ _ _ _ (shown c.in-Some.next) c.in-Some.ensures.steps
    c.loop-next.invariant.returning

pub loop-next-preserved : goal.loop-next-preserved
loop-next-preserved g c =
    let before : vec_len c.loop-next.out ≡ length c.loop-next.out.items = omega arith in
    let after : vec_len c.append_piece.new.out ≡ length c.append_piece.new.out.items = omega arith in
    let room = c.append_piece.ensures.capacity in
    record {
      returning = rw room (IsReturning-more _ _ _ _ _ _ _ _ _ _ _ _ (shown c.in-Some.next) c.in-Some.ensures.steps
          c.append_piece.ensures.items before after c.loop-next.invariant.returning);
      capacity = room ∙ c.loop-next.invariant.capacity;
    }

-- where none is left, all was appended
pub returns-clause-items : goal.returns-clause-items
returns-clause-items g c =
    IsReturning-end _ _ _ _ _ _ _ _ _ c.in-None.ensures.steps.0 c.loop-next.invariant.returning
