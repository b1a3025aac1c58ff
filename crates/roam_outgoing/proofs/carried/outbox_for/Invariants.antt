use Rattle.std.proofs.Common.{◌≤◌, []}
use Rattle.roam_port.specs.Outbox.{port_count}
use Rattle.roam_outgoing.specs.Sending.{PutsEach}
use Rattle.roam_outgoing.proofs.carried.outbox_for.Given as goal

-- there are so many ports, and what waited waits
abbrev pub invariant-loop-socket : goal.invariant-loop-socket
invariant-loop-socket l = record {
  count : port_count l.outbox ≤ l.ports;
  waits : PutsEach [] l.fn.before l.outbox;
}
