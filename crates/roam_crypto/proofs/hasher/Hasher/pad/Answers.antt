use Rattle.std.proofs.Common.{◌%◌, refl, arith}
use Rattle.roam_crypto.proofs.TakingLemmas.{pad_taken, pad_filled, used_of_total}
use Rattle.roam_crypto.proofs.hasher.Hasher.pad.Goals as goal

-- the length needs a block of its own
pub returns-then-used-ge56 : goal.returns-then-used-ge56
returns-then-used-ge56 c = λ m held.
    pad_filled c.args.self.now.state c.args.self.now.buffer _ _ m (c.args.self.now.total % 64) held.taken (omega arith)
    (used_of_total m _ held.total) (omega arith) (omega arith) c.compress.ensures refl

-- it has room behind the padding
pub returns-else-used-ge56 : goal.returns-else-used-ge56
returns-else-used-ge56 c = λ m held.
    pad_taken c.args.self.now.state c.args.self.now.buffer _ m (c.args.self.now.total % 64) held.taken (omega arith)
    (used_of_total m _ held.total) (omega arith) refl
