use Rattle.std.proofs.Common.{◌≡◌, ◌∙◌, ap, length, arith}
use Rattle.std.specs.Prelude.{bit_xor}
use Rattle.roam_crypto.proofs.PieceLemmas.{length-padded_key, map_one_more}
use Rattle.roam_crypto.proofs.hmac.key_with_pad.Goals as goal

-- one octet more is XORed
pub loop-octet-preserved : goal.loop-octet-preserved
loop-octet-preserved c =
    let size : length c.padded_key-block.result ≡ 64 =
    ap length c.padded_key-block.ensures ∙ length-padded_key c.args.key.now c.requires in
    map_one_more (λ octet. bit_xor octet c.args.pad) c.padded_key-block.result
    c.loop-octet.octet-items c.loop-octet.octet-index (omega (arith, size)) c.loop-octet.invariant
