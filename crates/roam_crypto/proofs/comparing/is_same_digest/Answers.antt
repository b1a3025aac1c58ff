use Rattle.std.proofs.Common.{rules}
use Rattle.roam_crypto.proofs.DifferenceLemmas.{next_octet}
use Rattle.roam_crypto.proofs.comparing.is_same_digest.Goals as goal

pub loop-at-preserved : goal.loop-at-preserved
loop-at-preserved c =
    next_octet c.loop-at.difference c.loop-at.at c.args.one.now c.args.other.now (search rules) (search rules)
    c.loop-at.invariant
