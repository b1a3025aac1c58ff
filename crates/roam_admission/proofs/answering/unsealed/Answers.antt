use Rattle.std.proofs.Common.{rules, arith}
use Rattle.std.proofs.lemmas.Result.{err_from_is_err_and}
use Rattle.roam_wire.specs.Shown.{shown}
use Rattle.roam_admission.proofs.AnswerLemmas.{IsFilling-within}
use Rattle.roam_admission.proofs.answering.unsealed.Goals as goal

-- one Proxy-State more would pass the limit, and the whole has it
pub returns-in_err-push_attr-2-clause-too_long : goal.returns-in_err-push_attr-2-clause-too_long
returns-in_err-push_attr-2-clause-too_long g c = λ is.
    let within = IsFilling-within c.args.code c.args.request.now c.loop-attribute.packet _ _
    (shown c.in-Some.attribute) c.in-Some.ensures.steps (search rules) c.loop-attribute.invariant in
    let fault = err_from_is_err_and c.from_residual-in_err-push_attr-2.result
    c.from_residual-in_err-push_attr-2.ensures.1 in
    let over = c.in_err-push_attr-2.ensures.too_long.0 (cc (fault.1, fault.2)) in
    omega (arith, within, over)
