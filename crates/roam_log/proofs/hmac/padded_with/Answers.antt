use Rattle.std.proofs.Common.{arith}
use Rattle.std.specs.Prelude.{bit_xor}
use Rattle.roam_crypto.proofs.PieceLemmas.{map_one_more}
use Rattle.roam_log.proofs.hmac.padded_with.Goals as goal

-- one octet more is XORed
pub loop-octet-preserved : goal.loop-octet-preserved
loop-octet-preserved c =
    map_one_more (λ octet. bit_xor octet c.args.pad) c.args.block
    c.loop-octet.octet-items c.loop-octet.octet-index (omega (arith)) c.loop-octet.invariant
