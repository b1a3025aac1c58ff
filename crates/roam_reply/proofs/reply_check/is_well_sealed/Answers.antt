use Rattle.std.proofs.Common.{◌≡◌, ◌↔◌, [], ◌∷◌, false, IsTrue, rules}
use Rattle.roam_crypto.specs.MessageAuthenticator.{IsWellSealed}
use Rattle.roam_wire.specs.Codes.{is_access_reply}
use Rattle.roam_reply.proofs.CheckLemmas.{well_sealed_over_zeros}
use Rattle.roam_reply.proofs.reply_check.is_well_sealed.Goals as goal

-- an accounting or reverse reply that isn't sealed over the request's Authenticator is over zeros
pub returns-then-not-is_access_reply : goal.returns-then-not-is_access_reply
returns-then-not-is_access_reply c =
    let other : is_access_reply c.args.reply.now.code ≡ false = search rules in
    let request : IsTrue c.message_ok.result
    ↔ IsWellSealed c.args.secret.now (c.args.forwarded.now.authenticator ∷ []) c.args.reply.now =
    rw (← c.authenticator.ensures) c.message_ok.ensures in
    well_sealed_over_zeros c.args.secret.now c.args.reply.now c.args.forwarded.now c.message_ok.result _ other
    c.if-message_ok.false request c.message_ok-then-not-is_access_reply.ensures
