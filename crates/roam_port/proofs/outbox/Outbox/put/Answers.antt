use Rattle.roam_port.specs.Queues.{count_waiting}
use Rattle.roam_port.proofs.BalanceLemmas.{loss_kept}
use Rattle.roam_port.proofs.outbox.Outbox.put.Goals as goal

-- It is lost, and counted.
pub invariant_of-self-clause-balanced : goal.invariant_of-self-clause-balanced
invariant_of-self-clause-balanced g c =
    loss_kept c.args.self.now.account c.count_loss.new.self (count_waiting c.args.self.now.queues.items)
    c.count_loss.ensures c.args.self.now.balanced
