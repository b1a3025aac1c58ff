use Rattle.roam_crypto.proofs.HidingLemmas.{IsUnderway}
use Rattle.roam_crypto.proofs.blocks.rehide_blocks.Given as goal

-- the blocks below k are hidden anew
abbrev pub invariant-loop-k : goal.invariant-loop-k
invariant-loop-k l = IsUnderway l.fn.from l.fn.off l.fn.to l.fn.on l.fn.value l.value l.before l.k
