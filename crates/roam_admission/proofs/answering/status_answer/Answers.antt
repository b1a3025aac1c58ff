use Rattle.std.proofs.Common.{arith}
use Rattle.roam_admission.proofs.AnswerLemmas.{answer_no_longer, only_memory}
use Rattle.roam_admission.proofs.answering.status_answer.Goals as goal

-- the answer is no longer than the request, so it isn't too long
pub returns-clause-causes : goal.returns-clause-causes
returns-clause-causes g c =
    let room = answer_no_longer c.args.request.now c.requires.sealed in
    let limit = c.answer.ensures.packet.size in
    only_memory c.answer.result _ c.answer.ensures.causes c.answer.ensures.too_long (omega (arith, room, limit))
