use Rattle.std.proofs.Common.{[]}
use Rattle.roam_outgoing.specs.Sending.{PutsEach, outbox_in}
use Rattle.roam_outgoing.proofs.outgoing.Outgoing.rooms_came.Given as goal

-- no packet was put
abbrev pub invariant-loop-number : goal.invariant-loop-number
invariant-loop-number l = PutsEach [] (outbox_in l.fn.self) (outbox_in l.self)
