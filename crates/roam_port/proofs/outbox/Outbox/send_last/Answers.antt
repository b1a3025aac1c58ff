use Rattle.std.proofs.Common.{arith}
use Rattle.roam_port.proofs.ListedLemmas.{sent_counted, sent_listed}
use Rattle.roam_port.proofs.BalanceLemmas.{sent_balanced}
use Rattle.roam_port.proofs.outbox.Outbox.send_last.Goals as goal

-- It was listed, and is no more.
pub invariant_of-self-clause-few : goal.invariant_of-self-clause-few
invariant_of-self-clause-few g c =
    let counts = sent_counted _ _ _ _ _ _ _ _ _ c.send_at.ensures in
    let few = c.args.self.now.few in
    let size = rw c.unwrap-socket.ensures at c.pop.ensures.len in
    omega arith

pub invariant_of-self-clause-all : goal.invariant_of-self-clause-all
invariant_of-self-clause-all g c =
    let left = rw c.unwrap-socket.ensures at c.pop.ensures.items in
    sent_listed _ _ _ _ _ _ _ _ _ c.send_at.ensures c.args.self.now.listed.items _ left c.args.self.now.all

-- What is gone is counted.
pub invariant_of-self-clause-balanced : goal.invariant_of-self-clause-balanced
invariant_of-self-clause-balanced g c = sent_balanced _ _ _ _ _ _ _ _ _ c.send_at.ensures c.args.self.now.balanced
