use Rattle.std.proofs.Common.{refl, arith}
use Rattle.roam_address.proofs.NotedLemmas.{noted_none, noted_next, noted_twice, noted_all}
use Rattle.roam_address.proofs.prefix_index.PrefixIndex.new.Goals as goal

pub loop-prefix-init : goal.loop-prefix-init
loop-prefix-init g c = noted_none c.args.prefixes.now c.new-keys.result.keys _ c.new-keys.ensures.empty refl

-- a prefix that is there already
pub returns-then-not-branch : goal.returns-then-not-branch
returns-then-not-branch g c =
    noted_twice c.args.prefixes.now c.loop-prefix.prefix-index c.prefix-item.result c.loop-prefix.keys.keys
    c.loop-prefix.lengths c.loop-prefix.invariant (omega arith) c.prefix-item.is c.leading-key.result
    c.in_ok-insert.field-0 c.leading-key.ensures
    c.in_ok-insert.ensures.added c.if-not-branch.true

-- one that isn't
pub loop-prefix-preserved : goal.loop-prefix-preserved
loop-prefix-preserved g c =
    let i = c.loop-prefix.prefix-index in
    let marks = c.loop-prefix.lengths in
    rw c.slot.ensures (noted_next c.args.prefixes.now i c.prefix-item.result c.loop-prefix.keys.keys marks
    c.loop-prefix.invariant (omega arith) c.prefix-item.is c.leading-key.result c.insert.new.self.keys
    c.in_ok-insert.field-0 c.leading-key.ensures c.in_ok-insert.ensures.added c.if-not-branch.false
    c.in_ok-insert.ensures.keys)

pub invariant_of-result : goal.invariant_of-result
invariant_of-result g c = record { marked = c.loop-prefix.invariant.marked }

pub returns : goal.returns
returns g c =
    noted_all c.args.prefixes.now c.loop-prefix.prefix-index c.loop-prefix.keys.keys c.loop-prefix.lengths
    c.loop-prefix.invariant (omega arith)
