use Rattle.std.proofs.Common.{List, ℕ, ◌++◌, ap, ◌∙◌}
use Rattle.md5.specs.Md5.{md5}
use Rattle.roam_crypto.specs.Hmac.{key_with_pad, hmac_md5}
use Rattle.roam_crypto.specs.MessageAuthenticator.{message_authenticator}
use Rattle.roam_crypto.proofs.message.digest_at.Goals as goal

-- the packet that was hashed is the one with that Authenticator and zeros
pub returns : goal.returns
unfolding message_authenticator hmac_md5
returns c =
    let held = c.update_with_packet.ensures _ c.inner_hasher-hasher.ensures in
    c.outer_digest.ensures
    ∙ ap (λ (t : List ℕ). md5 (key_with_pad 0x5c c.args.secret.now ++ t)) (c.finalize.ensures _ held)
