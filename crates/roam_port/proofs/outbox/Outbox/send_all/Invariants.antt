use Rattle.std.proofs.Common.{◌≡◌, ◌+◌, ℕ, List, length}
use Rattle.roam_port.specs.Outbox.{port_count}
use Rattle.roam_port.specs.Queues.{SendsAlong}
use Rattle.roam_port.proofs.outbox.Outbox.send_all.Given as goal

abbrev pub invariant-loop : goal.invariant-loop
invariant-loop g l = record {
  sockets : List ℕ;
  along : SendsAlong g.P.Port.hands sockets l.fn.ports l.ports l.fn.self.queues.items l.self.queues.items
      l.fn.self.account l.self.account l.sent;
  left : l.counter + length l.self.listed.items ≡ length l.fn.self.listed.items;
  count : port_count l.self ≡ port_count l.fn.self;
  ports : length l.ports ≡ length l.fn.ports;
}
