use Rattle.std.proofs.Common.{[]}
use Rattle.roam_crypto.proofs.blocks.digest_of.Goals as goal

-- both pieces were taken in
pub returns : goal.returns
returns c = c.finalize.ensures _ (c.update-2.ensures _ (c.update.ensures [] c.new-hasher.ensures))
