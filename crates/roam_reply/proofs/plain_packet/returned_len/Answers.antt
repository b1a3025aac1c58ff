use Rattle.std.proofs.Common.{arith, ap, ◌∙◌}
use Rattle.roam_wire.specs.Codes.{is_access_reply}
use Rattle.roam_forward.specs.Removal.{removed_by}
use Rattle.roam_reply.specs.Returned.{named, passing}
use Rattle.roam_reply.specs.Shown.{shown}
use Rattle.roam_reply.proofs.PlainLemmas.{packet_length-plain, returned_length-plain}
use Rattle.roam_reply.proofs.plain_packet.returned_len.Goals as goal

-- the sum of its parts
pub returns-clause-plain : goal.returns-clause-plain
returns-clause-plain c =
    let size = packet_length-plain (passing (removed_by c.args.returning.now.removal)
    (named c.args.returning.now.own c.args.request.now c.args.reply.now)) c.args.request.now
    c.is_access_reply-access.result
    (c.is_access_reply-access.ensures ∙ ap is_access_reply c.code.ensures) in
    omega (arith, size, c.seal_len.ensures, c.carried_len.ensures.all, c.proxy_states_len.ensures.all)

-- with what it is returned says nothing of it
pub returns-clause-returned : goal.returns-clause-returned
returns-clause-returned c =
    let size = packet_length-plain (passing (removed_by c.args.returning.now.removal)
    (named c.args.returning.now.own c.args.request.now c.args.reply.now)) c.args.request.now
    c.is_access_reply-access.result
    (c.is_access_reply-access.ensures ∙ ap is_access_reply c.code.ensures) in
    omega (
      arith,
      size,
      returned_length-plain (shown c.args.returning.now) (passing (removed_by c.args.returning.now.removal)
          (named c.args.returning.now.own c.args.request.now c.args.reply.now)) c.args.request.now,
      c.seal_len.ensures,
      c.carried_len.ensures.all,
      c.proxy_states_len.ensures.all,
    )
