use Rattle.std.proofs.Common.{◌≡◌, ◌+◌, ◌-◌, ◌*◌, ◌≤◌, ◌++◌, ◌∙◌, ap, subst, refl, List, ℕ, suc, length, arith, rules}
use Rattle.md5.specs.Md5.{md5}
use Rattle.md5.proofs.StandardFacts.{length-md5}
use Rattle.roam_crypto.proofs.HidingLemmas.{cover_from, underway_start, underway_step, underway_done}
use Rattle.roam_crypto.proofs.blocks.rehide_blocks.Goals as goal

-- The first block is done, and 0 is the number of blocks done before it.
pub loop-k-init : goal.loop-k-init
loop-k-init c =
    let value = c.args.value.now in
    let from = c.args.from.now in
    let to = c.args.to.now in
    let start = underway_start from c.args.off to c.args.on value value in
    let inside : 16 * 0 + 16 ≤ length value =
    omega (arith, c.requires.not_empty, c.requires.whole_blocks) in
    let off_size : length c.args.off ≡ 16 = search rules in
    let on_size : length c.args.on ≡ 16 = search rules in
    rw (c.rehide_block.ensures, c.block_at-before.ensures)
    (underway_step from c.args.off to c.args.on value value value c.args.off c.args.on 0 1 refl
    start inside refl refl off_size on_size)

-- The digests read the block before, as it was and as it is now.
pub loop-k-preserved : goal.loop-k-preserved
loop-k-preserved c =
    let k = c.loop-k.k in
    let value = c.args.value.now in
    let now = c.loop-k.value in
    let from = c.args.from.now in
    let to = c.args.to.now in
    let off = c.digest_of-off.result in
    let on = c.digest_of-on.result in
    let h = c.loop-k.invariant in
    let inside : 16 * k + 16 ≤ length value = omega arith in
    let before_k : suc (k - 1) ≡ k = omega arith in
    let off_md5 : off ≡ md5 (from ++ c.loop-k.before) = c.digest_of-off.ensures in
    let on_md5 : on ≡ md5 (to ++ c.block_at.result) = c.digest_of-on.ensures in
    let off_is : off ≡ cover_from from c.args.off value k =
    subst (λ (n : ℕ). off ≡ cover_from from c.args.off value n) before_k
    (off_md5 ∙ ap (λ (t : List ℕ). md5 (from ++ t)) (h.before (k - 1) before_k)) in
    let on_is : on ≡ cover_from to c.args.on now k =
    subst (λ (n : ℕ). on ≡ cover_from to c.args.on now n) before_k
    (on_md5 ∙ ap (λ (t : List ℕ). md5 (to ++ t)) c.block_at.ensures) in
    let off_size : length off ≡ 16 = ap length off_md5 ∙ length-md5 (from ++ c.loop-k.before) in
    let on_size : length on ≡ 16 = ap length on_md5 ∙ length-md5 (to ++ c.block_at.result) in
    rw (c.rehide_block-in-loop-k.ensures, c.block_at-before-in-loop-k.ensures)
    (underway_step from c.args.off to c.args.on value now c.loop-k.before off on k (k + 1) refl h
    inside off_is on_is off_size on_size)

-- All blocks are done.
pub returns : goal.returns
returns c = λ a b opens_a opens_b.
    let h = c.loop-k.invariant in
    let all : length c.args.value.now ≡ 16 * c.loop-k.k =
    omega (arith, c.requires.whole_blocks, h.size) in
    underway_done c.args.from.now c.args.off c.args.to.now c.args.on c.args.value.now
    c.loop-k.value c.loop-k.before c.loop-k.k a b all h opens_a opens_b
