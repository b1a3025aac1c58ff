use Rattle.std.proofs.Common.{[], ◌∷◌, sym, ◌∙◌}
use Rattle.std.specs.Prelude.{◌==◌}
use Rattle.roam_wire.specs.declared.attribute_type.TheConstants.{CHAP_CHALLENGE}
use Rattle.roam_wire.specs.declared.code.TheConstants.{ACCESS_REQUEST}
use Rattle.roam_forward.specs.Removal.{removed_by}
use Rattle.roam_forward.specs.Without.{without}
use Rattle.roam_forward.specs.Forwarded.{challenge_is_authenticator}
use Rattle.roam_forward.proofs.AddedLemmas.{both-add, else-none}
use Rattle.roam_forward.proofs.added.challenge_to_add.Goals as goal

pub returns-then-takes_challenge : goal.returns-then-takes_challenge
returns-then-takes_challenge c =
    let all = without (removed_by c.args.removal.now) c.args.request.now.attributes in
    let is = c.authenticator.ensures in
    rw is
    (sym (both-add (c.args.request.now.code == ACCESS_REQUEST) (challenge_is_authenticator all)
    (record { kind = CHAP_CHALLENGE; value = c.args.request.now.authenticator } ∷ [])
    (sym c.takes_challenge.ensures ∙ c.if-takes_challenge.true)))

pub returns-else-takes_challenge : goal.returns-else-takes_challenge
returns-else-takes_challenge c =
    let all = without (removed_by c.args.removal.now) c.args.request.now.attributes in
    sym (else-none (c.args.request.now.code == ACCESS_REQUEST) (challenge_is_authenticator all)
    (record { kind = CHAP_CHALLENGE; value = c.args.request.now.authenticator } ∷ [])
    (sym c.takes_challenge.ensures ∙ c.if-takes_challenge.false))
