use Rattle.std.proofs.Common.{rules, ◌≡◌, arith, sym, ◌∙◌}
use Rattle.std.proofs.lemmas.List.{take_all}
use Rattle.std.proofs.lemmas.Slice.{overwrites}
use Rattle.md5.specs.Md5.{digest_bytes}
use Rattle.md5.proofs.Absorbing.{digest_more}
use Rattle.roam_crypto.proofs.hasher.digest_octets.Goals as goal

pub loop-i-init : goal.loop-i-init
unfolding digest_bytes
loop-i-init c = search rules

pub loop-i-preserved : goal.loop-i-preserved
loop-i-preserved c = (
  search (rules, overwrites),
  digest_more c.loop-i.digest c.args.state _ c.loop-i.i _ c.loop-i.invariant.1 (omega arith)
      (c.copy_from_slice.ensures.after ∙ c.to_le_bytes.ensures),
)

pub returns : goal.returns
returns c =
    let done : c.loop-i.i ≡ 4 = omega arith in
    sym (take_all 16 c.loop-i.digest (omega arith)) ∙ rw done at c.loop-i.invariant.1
