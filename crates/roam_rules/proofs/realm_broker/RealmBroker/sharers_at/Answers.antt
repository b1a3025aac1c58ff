use Rattle.std.proofs.Common.{arith, sym}
use Rattle.std.specs.Prelude.{if◌then◌else◌}
use Rattle.roam_rules.specs.Private.Sharing.{held_as, is_sharer}
use Rattle.roam_rules.specs.RealmTurn.{entries}
use Rattle.roam_rules.proofs.SumLemmas.{sum-more, sum-none}
use Rattle.roam_rules.proofs.realm_broker.RealmBroker.sharers_at.Goals as goal

-- none was looked at
pub loop-id-init : goal.loop-id-init
loop-id-init g c =
    let test = is_sharer c.args.sharer in
    let es = entries g.E.Entries c.args.self.now in
    (sym (sum-none (λ id. if held_as test c.args.replaced c.args.link id es then 1 else 0)), omega arith)

-- one more was
pub loop-id-preserved : goal.loop-id-preserved
loop-id-preserved g c =
    let test = is_sharer c.args.sharer in
    let es = entries g.E.Entries c.args.self.now in
    let value = rw c.holds_sharer.ensures at c.one_if-count.ensures.value in
    let more = sum-more c.loop-id.id (λ id. if held_as test c.args.replaced c.args.link id es then 1 else 0) in (
      omega (arith, more, value, c.loop-id.invariant.0),
      omega (arith, c.one_if-count.ensures.small, c.loop-id.invariant.1),
    )
