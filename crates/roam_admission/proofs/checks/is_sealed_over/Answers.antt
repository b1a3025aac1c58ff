use Rattle.std.proofs.Common.{[], ◌∷◌}
use Rattle.roam_crypto.proofs.DecidingLemmas.{well_sealed_decided}
use Rattle.roam_admission.proofs.CheckLemmas.{same_test}
use Rattle.roam_admission.proofs.checks.is_sealed_over.Goals as goal

-- the call and the definition's test are true just where the packet is well sealed
pub returns : goal.returns
returns c =
    same_test _ _ c.message_ok.ensures
    (well_sealed_decided c.args.secret.now (c.args.authenticator ∷ []) c.args.request.now)
