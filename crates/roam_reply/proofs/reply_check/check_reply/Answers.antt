use Rattle.std.proofs.Common.{refl}
use Rattle.roam_reply.proofs.CheckLemmas.{bad_seal-fault}
use Rattle.roam_reply.proofs.reply_check.check_reply.Goals as goal

-- the code answers and the reply is signed, so its fault is the seal
pub returns-then-not-is_rightly_sealed-clause-fault : goal.returns-then-not-is_rightly_sealed-clause-fault
returns-then-not-is_rightly_sealed-clause-fault c =
    let code = rw (c.code.ensures, c.code-2.ensures) at (c.if-not-answers.ensures.0 refl) in
    let signed = rw (c.authenticator.ensures, c.octets.ensures) at (c.if-not-response_ok.ensures.0 refl) in
    bad_seal-fault c.args.secret.now c.args.seal_required c.args.reply.now c.args.forwarded.now code signed
    (λ sealed. absurd (cc (c.if-not-is_rightly_sealed.ensures.1 sealed)))
