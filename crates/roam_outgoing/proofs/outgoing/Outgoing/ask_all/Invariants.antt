use Rattle.std.proofs.Common.{[]}
use Rattle.roam_outgoing.specs.Sending.{PutsEach, outbox_in}
use Rattle.roam_outgoing.proofs.outgoing.Outgoing.ask_all.Given as goal

-- no packet was put
abbrev pub invariant-loop : goal.invariant-loop
invariant-loop l = PutsEach [] (outbox_in l.fn.self) (outbox_in l.self)
