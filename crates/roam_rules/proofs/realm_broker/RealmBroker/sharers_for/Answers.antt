use Rattle.std.proofs.Common.{arith, sym, length}
use Rattle.roam_rules.specs.Private.Sharing.{held_below, is_sharer, sum_below}
use Rattle.roam_realm.specs.RealmConfig.{server_link}
use Rattle.roam_rules.specs.RealmTurn.{entries}
use Rattle.roam_rules.proofs.SumLemmas.{sum-more, sum-none}
use Rattle.roam_rules.proofs.realm_broker.RealmBroker.sharers_for.Goals as goal

-- none was looked at
pub loop-server-init : goal.loop-server-init
loop-server-init g c =
    let test = is_sharer c.args.sharer in
    let es = entries g.E.Entries c.args.self.now in
    let outs = length c.args.self.now.settings.now.realm.out in (
      sym (sum-none (λ server. sum_below outs
          (λ out. held_below 256 test c.args.replaced (server_link c.args.service server out) es))),
      omega arith,
    )

-- one more was
pub loop-server-preserved : goal.loop-server-preserved
loop-server-preserved g c =
    let test = is_sharer c.args.sharer in
    let es = entries g.E.Entries c.args.self.now in
    let outs = length c.args.self.now.settings.now.realm.out in
    let more = sum-more c.loop-server.server
    (λ server. sum_below outs
    (λ out. held_below 256 test c.args.replaced (server_link c.args.service server out) es)) in (
      omega (arith, more, c.sharers_to-count.ensures.count, c.loop-server.invariant.0),
      omega (arith, c.sharers_to-count.ensures.few, c.loop-server.invariant.1),
    )
