use Rattle.std.proofs.Common.{arith}
use Rattle.roam_reply.specs.Nak.{nak_length}
use Rattle.roam_reply.proofs.NakLemmas.{nak_length-at_most}
use Rattle.roam_reply.proofs.negative_ack.nak_len.Goals as goal

-- the header, the Error-Cause, and what was counted
pub returns-clause-size : goal.returns-clause-size
unfolding nak_length
returns-clause-size c = omega (arith, c.proxy_states_len.ensures.all)

pub returns-clause-unsigned : goal.returns-clause-unsigned
returns-clause-unsigned c = λ cause. omega (arith, c.proxy_states_len.ensures.all)

pub returns-clause-at_most : goal.returns-clause-at_most
unfolding nak_length
returns-clause-at_most c =
    omega (arith, c.proxy_states_len.ensures.all, nak_length-at_most c.args.request.now)
