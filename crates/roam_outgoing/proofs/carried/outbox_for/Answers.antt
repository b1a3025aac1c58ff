-- There are further ports, and one after the other is tried again.
use Rattle.std.proofs.Common.{arith, []}
use Rattle.roam_outgoing.proofs.SendingLemmas.{grown, puts_on, tried_again}
use Rattle.roam_outgoing.proofs.carried.outbox_for.Goals as goal

pub loop-socket-init : goal.loop-socket-init
loop-socket-init c = record {
  count = omega (arith, c.in_ok-add_ports.ensures.ok, c.if-port_count-ports.false, c.port_count.ensures);
  waits = grown c.args.ports _ _ c.in_ok-add_ports.ensures.more c.in_ok-add_ports.ensures.account;
}

pub loop-socket-preserved : goal.loop-socket-preserved
loop-socket-preserved c =
    let inv = c.loop-socket.invariant in
    record {
      count = omega (arith, c.try_again.ensures.count, inv.count);
      waits = puts_on [] _ _ _ inv.waits (tried_again _ _ _ c.try_again.ensures.again);
    }
