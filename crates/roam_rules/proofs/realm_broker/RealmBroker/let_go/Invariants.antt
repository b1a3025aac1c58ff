use Rattle.std.proofs.Common.{length}
use Rattle.roam_pending.specs.DueOrder.{due_list}
use Rattle.roam_rules.specs.RealmTurn.{Keeps, entries, state}
use Rattle.roam_rules.proofs.LettingGoLemmas.{IsLettingGo}
use Rattle.roam_rules.proofs.realm_broker.RealmBroker.let_go.Given as goal

abbrev pub invariant-loop-due : goal.invariant-loop-due
invariant-loop-due g l = record {
  keeps : Keeps g.E.Entries l.fn.self l.self;
  going : IsLettingGo l.fn.self.settings.now l.now (state g.E.Entries l.fn.self) (state g.E.Entries l.self);
}

abbrev pub decreases-loop-due : goal.decreases-loop-due
decreases-loop-due g l = length (due_list l.now (entries g.E.Entries l.self))
