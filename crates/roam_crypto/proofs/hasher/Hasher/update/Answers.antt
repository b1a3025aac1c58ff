use Rattle.std.proofs.Common.{◌≡◌, ◌∙◌, ◌-◌, ◌%◌, ◌++◌, length, arith, length-append}
use Rattle.md5.proofs.Absorbing.{total_append}
use Rattle.roam_crypto.proofs.TakingLemmas.{used_of_total, two_parts}
use Rattle.roam_crypto.proofs.hasher.Hasher.update.Goals as goal

-- they begin a block
pub returns-then-used-eq0 : goal.returns-then-used-eq0
returns-then-used-eq0 c = λ m held. record {
  total = total_append c.args.self.now.total _ m c.args.octets.now held.total c.take_blocks.ensures.total;
  taken = c.take_blocks.ensures.taken m (omega (arith, used_of_total m _ held.total)) held.taken;
}

-- they don't fill it
pub returns-then-octets-used : goal.returns-then-octets-used
returns-then-octets-used c = λ m held. record {
  total = total_append c.args.self.now.total _ m c.args.octets.now held.total c.put.ensures.total;
  taken = c.put.ensures.taken m (omega (arith, used_of_total m _ held.total)) held.taken;
}

-- the first of them fill it, the others begin the next
pub returns-else-octets-used : goal.returns-else-octets-used
returns-else-octets-used c = λ m held.
    let used = used_of_total m c.args.self.now.total held.total in
    let first = c.split_at.ensures.front_len in
    let filled = c.fill.ensures.taken m (omega (arith, used)) held.taken in
    let edge : length (m ++ c.split_at.result.0.now) % 64 ≡ 0 =
    omega (arith, length-append m c.split_at.result.0.now, first, used) in
    let taken = c.take_blocks-else-octets-used.ensures.taken (m ++ c.split_at.result.0.now) edge filled in record {
      total = total_append c.args.self.now.total _ m c.args.octets.now held.total
          (c.take_blocks-else-octets-used.ensures.total ∙ c.fill.ensures.total);
      taken = two_parts _ _ m c.split_at.result.0.now c.split_at.result.1.now c.args.octets.now
          (64 - c.args.self.now.total % 64) c.split_at.ensures.front c.split_at.ensures.back taken;
    }
