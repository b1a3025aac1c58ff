use Rattle.std.proofs.Common.{refl}
use Rattle.md5.specs.Md5.{hash_after}
use Rattle.roam_crypto.proofs.hasher.Hasher.new.Goals as goal

-- nothing was taken in
pub returns : goal.returns
unfolding hash_after
returns c = record { total = refl; taken = record { absorbed = (refl, refl); zeros = refl } }
