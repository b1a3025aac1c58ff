use Rattle.std.proofs.Common.{arith}
use Rattle.roam_sessions.proofs.ledger.Sessions.close_all.Goals as goal

pub invariant_of-self : goal.invariant_of-self
invariant_of-self g c = (
  c.end_agreeing.ensures.sound,
  let count = rw c.deref_mut.ensures.value at c.end_agreeing.ensures.count in
      omega (arith, count, c.self.invariant.1),
)
