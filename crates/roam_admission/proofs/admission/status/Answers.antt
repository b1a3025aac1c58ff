use Rattle.std.proofs.Common.{◌≡◌, [], ◌∷◌, true}
use Rattle.roam_crypto.specs.Deciding.{is_well_sealed}
use Rattle.roam_admission.specs.Admission.{has_seal}
use Rattle.roam_admission.proofs.AnswerLemmas.{sealed_one}
use Rattle.roam_admission.proofs.admission.status.Goals as goal

-- what is well sealed and has a Message-Authenticator has one
pub status_answer-requires-clause-sealed : goal.status_answer-requires-clause-sealed
status_answer-requires-clause-sealed g c =
    let well : is_well_sealed c.args.secret.now (c.authenticator.result ∷ []) c.args.packet.now.view ≡ true =
    rw (← c.is_sealed_over.ensures) c.if-not-is_sealed_over.false in
    let has : has_seal c.args.packet.now.view ≡ true = rw (← c.has_seal.ensures) c.if-not-has_seal.false in
    sealed_one c.args.secret.now c.authenticator.result c.args.packet.now.view well has
