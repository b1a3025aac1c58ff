use Rattle.std.proofs.Common.{◌<◌, ◌∙◌, arith, length, sym}
use Rattle.std.specs.List.{find}
use Rattle.roam_realm.specs.ServerOrder.{in_order, links_from}
use Rattle.roam_realm.specs.Sound.{is_sought}
use Rattle.roam_realm.proofs.OrderLemmas.{order-hit, order-skip}
use Rattle.roam_realm.proofs.realm_numbers.RealmNumbers.first_sought.Goals as goal

-- a link to this server is sought, and none to those before it was
pub returns-then-is_some-clause-first : goal.returns-then-is_some-clause-first
returns-then-is_some-clause-first g c =
    let settings = c.args.settings.now in
    let order = in_order settings c.args.servers in
    let sought = is_sought settings c.args.self.now.rests.items c.args.self.now.lanes.items c.args.wanted
    c.args.freed in
    let count = c.order_count-nth-end.ensures.count in
    let within : c.loop-nth.nth < length order = omega (arith, c.loop-nth-test.true, count) in
    order-hit sought settings c.args.servers.service order c.loop-nth.nth c.sought_at-link.result
    (find sought (links_from settings c.args.servers)) within c.sought_at-link.ensures.first c.loop-nth.invariant
    (sym c.is_some.ensures ∙ c.if-is_some.true)

-- none to this server is sought, nor was one to those before it
pub loop-nth-preserved : goal.loop-nth-preserved
loop-nth-preserved g c =
    let settings = c.args.settings.now in
    let order = in_order settings c.args.servers in
    let sought = is_sought settings c.args.self.now.rests.items c.args.self.now.lanes.items c.args.wanted
    c.args.freed in
    let count = c.order_count-nth-end.ensures.count in
    let within : c.loop-nth.nth < length order = omega (arith, c.loop-nth-test.true, count) in
    order-skip sought settings c.args.servers.service order c.loop-nth.nth c.sought_at-link.result
    (find sought (links_from settings c.args.servers)) within c.sought_at-link.ensures.first c.loop-nth.invariant
    (sym c.is_some.ensures ∙ c.if-is_some.false)
