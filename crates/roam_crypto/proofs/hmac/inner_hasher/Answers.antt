use Rattle.std.proofs.Common.{[], ◌∙◌, subst}
use Rattle.roam_crypto.specs.Hasher.{Holds}
use Rattle.roam_crypto.proofs.hmac.inner_hasher.Goals as goal

-- it has taken the padded key
pub returns : goal.returns
returns c =
    subst (Holds c.update.new.self) (c.as_slice.ensures ∙ c.key_with_pad.ensures)
    (c.update.ensures [] c.new-hasher.ensures)
