use Rattle.std.proofs.Common.{◌-◌, refl, arith}
use Rattle.roam_crypto.proofs.TakingLemmas.{fill_taken}
use Rattle.roam_crypto.proofs.hasher.Hasher.fill.Goals as goal

-- the block is full, and the buffer is zeros again
pub returns-clause-taken : goal.returns-clause-taken
returns-clause-taken c = λ m used held.
    fill_taken c.args.self.now.state c.args.self.now.buffer _ _ m c.args.octets.now _ c.args.used (64 - c.args.used)
    held (omega arith) used c.requires refl c.copy_from_slice.ensures.after c.compress.ensures refl
