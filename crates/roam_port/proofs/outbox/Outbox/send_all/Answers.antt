use Rattle.std.proofs.Common.{arith, ◌∷◌, ◌∙◌}
use Rattle.roam_port.proofs.PortFateLemmas.{all_go_or_wait}
use Rattle.roam_port.proofs.ListedLemmas.{none_left}
use Rattle.roam_port.proofs.outbox.Outbox.send_all.Goals as goal

-- One more port's packets were sent.
pub loop-preserved : goal.loop-preserved
loop-preserved g c =
    let was = c.loop.invariant in
    let sends = c.send_last.ensures.sends in
    let left = was.left in
    let one = c.send_last.ensures.listed in
    record {
      sockets = sends.socket ∷ was.sockets;
      along = (
        c.loop.ports,
        c.loop.self.queues.items,
        c.loop.self.account,
        c.loop.sent,
        c.send_last.result,
        was.along,
        sends.sends,
        c.and-sent.ensures,
      );
      left = omega arith;
      count = c.send_last.ensures.count ∙ was.count;
      ports = c.send_last.ensures.ports ∙ was.ports;
    }

-- Nothing is listed any more.
pub returns-clause-sends : goal.returns-clause-sends
returns-clause-sends g c =
    let left = c.loop.invariant.left in
    let count = c.len-end.ensures in
    let size = c.args.self.now.listed.ok.0 in
    let last = c.loop-test.false in
    record {
      sockets = c.loop.invariant.sockets;
      along = c.loop.invariant.along;
      none_listed = none_left c.loop.self.queues.items c.loop.self.listed.items (omega arith) c.loop.self.all;
    }

-- What was handed over is gone, and the rest waits.
pub returns-clause-becomes : goal.returns-clause-becomes
returns-clause-becomes g c = all_go_or_wait g.P.Port.hands _ _ _ _ _ (returns-clause-sends g c)
