use Rattle.std.proofs.Common.{sym, ◌∙◌}
use Rattle.roam_admission.proofs.AdmitsLemmas.{sealed_once}
use Rattle.roam_admission.proofs.admission.request.Goals as goal

-- what is rightly sealed has at most one Message-Authenticator
pub route_request-requires-clause-sealed : goal.route_request-requires-clause-sealed
route_request-requires-clause-sealed g c =
    sealed_once c.args.secret.now c.args.packet.now.view (sym c.is_rightly_sealed.ensures
    ∙ c.if-not-is_rightly_sealed.false)
