use Rattle.std.proofs.Common.{◌≡◌, ◌+◌, ◌*◌, ◌≤◌, ◌++◌, ◌∙◌, ap, sym, List, ℕ, length, take, drop, arith}
use Rattle.std.specs.Prelude.{bit_xor}
use Rattle.std.proofs.lemmas.List.{drop-drop}
use Rattle.std.proofs.lemmas.Simd.{put_chunk_is, length-zip2}
use Rattle.roam_crypto.specs.Hiding.{block, xor_octets}
use Rattle.roam_crypto.proofs.HidingLemmas.{length-block}
use Rattle.roam_crypto.proofs.blocks.rehide_block.Goals as goal

-- The vector of 16 octets is stored at octet 16 * k.
pub returns : goal.returns
returns c =
    let value = c.args.value.now in
    let was = block c.args.k value in
    let plain = xor_octets was c.args.off.now in
    let fresh = xor_octets plain c.args.on.now in
    let was_size : length was ≡ 16 = length-block c.args.k value c.requires in
    let plain_size : length plain ≡ 16 =
    length-zip2 bit_xor was c.args.off.now (was_size ∙ sym c.told-off)
    ∙ was_size in
    let size : length fresh ≡ 16 =
    length-zip2 bit_xor plain c.args.on.now (plain_size ∙ sym c.told-on)
    ∙ plain_size in
    let inside : 16 * c.args.k + length fresh ≤ length value = omega (arith, c.requires) in
    put_chunk_is (16 * c.args.k) value fresh inside
    ∙ ap (λ (n : ℕ). take (16 * c.args.k) value ++ (fresh ++ drop n (drop (16 * c.args.k) value)))
    size
    ∙ ap (λ (t : List ℕ). take (16 * c.args.k) value ++ (fresh ++ t))
    (drop-drop 16 (16 * c.args.k) value)
