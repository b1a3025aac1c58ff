use Rattle.std.proofs.Common.{ap, refl, ◌∙◌}
use Rattle.md5.specs.Md5.{md5}
use Rattle.roam_crypto.specs.Authenticators.{response_authenticator}
use Rattle.roam_crypto.proofs.PieceLemmas.{signed_pieces}
use Rattle.roam_crypto.proofs.response.response_auth.Goals as goal

-- the pieces that were hashed are the packet with the request's Authenticator, and the secret
pub returns : goal.returns
unfolding response_authenticator
returns c =
    let octets = c.octets.ensures in
    let held = c.update.ensures _ (c.update_with_field.ensures _ c.new-hasher.ensures) in
    let pieces = signed_pieces c.args.request_authenticator c.args.secret.now _ _ _ _
    c.args.view.now octets.packet octets.text refl refl refl in
    c.finalize.ensures _ held ∙ ap md5 pieces
