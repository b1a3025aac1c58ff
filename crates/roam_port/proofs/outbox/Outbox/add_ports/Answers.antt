use Rattle.std.proofs.Common.{sym, subst, arith}
use Rattle.roam_port.specs.Queues.{AreListed}
use Rattle.roam_port.proofs.ListedLemmas.{more_counted, more_listed}
use Rattle.roam_port.specs.Accounts.{IsBalanced}
use Rattle.roam_port.proofs.BalanceLemmas.{more_waiting}
use Rattle.roam_port.proofs.outbox.Outbox.add_ports.Goals as goal

-- There is room to list each.
pub invariant_of-self-2-clause-room : goal.invariant_of-self-2-clause-room
invariant_of-self-2-clause-room g c =
    let bound = c.add_queues.ensures.bound in
    let room = c.in_ok-reserve.ensures.ok in
    let capacity = c.in_ok-reserve.ensures.capacity in
    let before = c.args.self.now.room in
    let size = c.args.self.now.queues.ok.0 in
    let more = c.add_queues.new.queues.ok.0 in
    omega arith

-- Nothing is listed for those that came in.
pub invariant_of-self-2-clause-few : goal.invariant_of-self-2-clause-few
invariant_of-self-2-clause-few g c =
    let counts = more_counted _ _ _ c.add_queues.ensures.more in
    let size = c.in_ok-reserve.ensures.len in
    let few = c.args.self.now.few in
    omega arith

pub invariant_of-self-2-clause-all : goal.invariant_of-self-2-clause-all
invariant_of-self-2-clause-all g c =
    subst (λ ns. AreListed c.add_queues.new.queues.items ns) (sym c.in_ok-reserve.ensures.items)
    (more_listed _ _ _ c.add_queues.ensures.more c.args.self.now.listed.items c.args.self.now.all)

-- Nothing waits for those that came in.
pub invariant_of-self-2-clause-balanced : goal.invariant_of-self-2-clause-balanced
invariant_of-self-2-clause-balanced g c =
    let same = more_waiting _ _ _ c.add_queues.ensures.more in
    subst (IsBalanced c.args.self.now.account) (sym same) c.args.self.now.balanced
