use Rattle.std.proofs.Common.{◌≡◌}
use Rattle.roam_outgoing.specs.Sending.{outbox_in}
use Rattle.roam_outgoing.proofs.outgoing.Outgoing.note_unreachable.Given as goal

-- no packet moves
abbrev pub invariant-loop-number : goal.invariant-loop-number
invariant-loop-number l = outbox_in l.self ≡ outbox_in l.fn.self
