use Rattle.std.proofs.Common.{◌<◌, ◌+◌, arith, length}
use Rattle.std.specs.Prelude.{slice_get}
use Rattle.roam_realm.specs.ServerOrder.{places_of}
use Rattle.roam_realm.proofs.OrderLemmas.{nth-count, nth-hit, nth-pass}
use Rattle.roam_realm.proofs.realm_settings.RealmSettings.nth_of_service.Goals as goal
use Rattle.roam_realm.proofs.realm_settings.RealmSettings.nth_of_service.Goals.{then-serves+else-before-eq0, else-serves}

-- this server takes such requests, and none is left before it
pub returns-then-before-eq0-clause-nth : goal.returns-then-before-eq0-clause-nth
returns-then-before-eq0-clause-nth c =
    let servers = c.args.self.now.realm.servers in
    let count = c.server_count-server-end.ensures.count in
    let within : c.loop-server.server < length servers = omega (arith, c.loop-server-test.true, count) in
    nth-hit c.args.service servers c.loop-server.server c.loop-server.before c.serves.result
    (slice_get (places_of c.args.service 0 servers) c.args.nth) within c.serves.ensures c.loop-server.invariant
    c.if-serves.true (omega (arith, c.if-before-eq0.true))

-- it does, and one less is left before it; or it doesn't
pub loop-server-preserved : goal.loop-server-preserved
loop-server-preserved c =
    let servers = c.args.self.now.realm.servers in
    let count = c.server_count-server-end.ensures.count in
    let within : c.loop-server.server < length servers = omega (arith, c.loop-server-test.true, count) in
    let answer = slice_get (places_of c.args.service 0 servers) c.args.nth in
    elim c.if-serves.branch [
      | then-serves+else-before-eq0 w ↦
          nth-count c.args.service servers c.loop-server.server c.loop-server.before c.serves.result answer within
          c.serves.ensures c.loop-server.invariant c.if-serves.before w.if-serves.true
          (omega (arith, w.if-before-eq0.false, w.before-is))
      | else-serves w ↦
          nth-pass c.args.service servers c.loop-server.server c.loop-server.before c.serves.result answer within
          c.serves.ensures c.loop-server.invariant c.if-serves.before w.if-serves.false (omega (arith, w.before-is))
    ]
