use Rattle.std.proofs.Common.{◌≡◌, length, arith}
use Rattle.roam_reply.specs.NakLaws.{CanBeRefused}
use Rattle.roam_reply.proofs.NakLemmas.{behind_nak, nak_text}
use Rattle.roam_reply.proofs.negative_ack.nak_reserved.Goals as goal

-- the size is the NAK's
pub append_unsigned-requires-clause-size : goal.append_unsigned-requires-clause-size
append_unsigned-requires-clause-size g c = c.nak_len-size.ensures.unsigned c.args.cause

-- behind the buffer's own octets stands a packet
pub sign_from-requires-clause-packet : goal.sign_from-requires-clause-packet
sign_from-requires-clause-packet g c =
    let request : CanBeRefused c.args.request.now =
    record { packet = c.nak_len-size.ensures.packet; short = c.requires.short } in
    let start : c.len-start.result ≡ length c.args.out.now.items = omega arith in
    (behind_nak c.args.cause c.args.request.now c.args.out.now.items c.append_unsigned.new.out.items
    c.len-start.result request start c.append_unsigned.ensures.items).there.text

-- and signed there it is the NAK
pub returns-clause-octets : goal.returns-clause-octets
returns-clause-octets g c =
    let request : CanBeRefused c.args.request.now =
    record { packet = c.nak_len-size.ensures.packet; short = c.requires.short } in
    let start : c.len-start.result ≡ length c.args.out.now.items = omega arith in
    let behind = behind_nak c.args.cause c.args.request.now c.args.out.now.items c.append_unsigned.new.out.items
    c.len-start.result request start c.append_unsigned.ensures.items in
    nak_text c.args.secret.now c.args.cause c.args.request.now c.args.out.now.items c.append_unsigned.new.out.items
    c.sign_from.new.out.items c.authenticator.result c.len-start.result behind c.authenticator.ensures
    c.sign_from.ensures.items
