use Rattle.std.proofs.Common.{[], ap, ◌∙◌, append_assoc}
use Rattle.md5.specs.Md5.{md5}
use Rattle.roam_crypto.proofs.salted_value.digest_of_salted.Goals as goal

-- the three pieces were taken in
pub returns : goal.returns
returns c =
    c.finalize.ensures _ (c.update-3.ensures _ (c.update-2.ensures _ (c.update.ensures [] c.new-hasher.ensures)))
    ∙ ap md5 (append_assoc c.args.secret.now c.args.authenticator.now c.args.salt.now)
