use Rattle.std.proofs.Common.{arith}
use Rattle.roam_admission.proofs.answering.answer_len.Goals as goal

pub returns-clause-size : goal.returns-clause-size
returns-clause-size c = omega (arith, c.proxy_states_len.ensures.all)
