use Rattle.std.proofs.Common.{◌∙◌}
use Rattle.roam_crypto.proofs.TakingLemmas.{padded_edge, bits_of_total, digest_of_padded}
use Rattle.roam_crypto.proofs.hasher.Hasher.finalize.Goals as goal

-- the padded message was taken in
pub returns : goal.returns
returns c = λ m held.
    let taken = c.fill.ensures.taken _ (padded_edge m) (c.pad.ensures m held) in
    c.digest_octets.ensures ∙ digest_of_padded m _ _ _
    (rw (bits_of_total m _ held.total) at c.to_le_bytes-length.ensures) taken
