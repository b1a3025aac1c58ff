use Rattle.std.proofs.Common.{arith, sym}
use Rattle.roam_rules.specs.Private.Sharing.{held_below, is_sharer}
use Rattle.roam_realm.specs.RealmConfig.{server_link}
use Rattle.roam_rules.specs.RealmTurn.{entries}
use Rattle.roam_rules.proofs.SumLemmas.{sum-more, sum-none}
use Rattle.roam_rules.proofs.realm_broker.RealmBroker.sharers_to.Goals as goal

-- none was looked at
pub loop-out-init : goal.loop-out-init
loop-out-init g c =
    let test = is_sharer c.args.sharer in
    let es = entries g.E.Entries c.args.self.now in (
      sym (sum-none (λ out. held_below 256 test c.args.replaced (server_link c.args.service c.args.server out) es)),
      omega arith,
    )

-- one more was
pub loop-out-preserved : goal.loop-out-preserved
loop-out-preserved g c =
    let test = is_sharer c.args.sharer in
    let es = entries g.E.Entries c.args.self.now in
    let count = rw c.link.ensures at c.sharers_at-count.ensures.count in
    let more = sum-more c.loop-out.out
    (λ out. held_below 256 test c.args.replaced (server_link c.args.service c.args.server out) es) in (
      omega (arith, more, count, c.loop-out.invariant.0),
      omega (arith, c.sharers_at-count.ensures.few, c.loop-out.invariant.1),
    )
