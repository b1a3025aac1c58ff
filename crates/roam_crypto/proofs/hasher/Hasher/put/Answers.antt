use Rattle.std.proofs.Common.{◌+◌, ◌-◌, length, refl, arith}
use Rattle.roam_crypto.proofs.TakingLemmas.{put_taken}
use Rattle.roam_crypto.proofs.hasher.Hasher.put.Goals as goal

-- they stand behind those that are used, and zeros behind them
pub returns-clause-taken : goal.returns-clause-taken
returns-clause-taken c = λ m used held.
    put_taken _ c.args.self.now.buffer _ m c.args.octets.now _ c.args.used
    (c.args.used + length c.args.octets.now - c.args.used) held (omega arith) used c.requires
    (omega arith) c.copy_from_slice.ensures.after refl
