use Rattle.std.specs.Vec.Iter.{into_iter_items, into_iter_len}
use Rattle.std.proofs.Common.{◌≡◌, length}
use Rattle.roam_rules.specs.RealmTurn.{Keeps, state}
use Rattle.roam_rules.proofs.TickLemmas.{IsTicking}
use Rattle.roam_rules.proofs.realm_broker.RealmBroker.on_tick.Given as goal

abbrev pub invariant-loop-slot : goal.invariant-loop-slot
invariant-loop-slot g l = record {
  keeps : Keeps g.E.Entries l.fn.self l.self;
  ticking : IsTicking l.fn.room.lines l.fn.self.settings.now l.now (state g.E.Entries l.fn.self)
      (state g.E.Entries l.self) l.fn.room.slots.items (into_iter_items l.slot-iterator) l.outs;
  left : into_iter_len l.slot-iterator ≡ length (into_iter_items l.slot-iterator);
}
