use Rattle.std.proofs.Common.{arith}
use Rattle.roam_rules.specs.RealmTurn.{entries}
use Rattle.roam_rules.proofs.AdmissionLemmas.{length-besides}
use Rattle.roam_rules.proofs.realm_broker.RealmBroker.held_besides.Goals as goal

-- one fewer than all
pub returns-in-Some : goal.returns-in-Some
returns-in-Some g c =
    let es = entries g.E.Entries c.args.self.now in
    let len = rw c.index.ensures at c.len-held.ensures.len in
    let list = rw c.index.ensures at c.len-held.ensures.list in
    omega (arith, len, length-besides es c.args.replaced _ list c.requires c.in-Some.is)
