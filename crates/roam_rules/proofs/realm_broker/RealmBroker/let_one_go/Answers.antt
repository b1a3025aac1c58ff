use Rattle.std.proofs.Common.{refl}
use Rattle.roam_pending.proofs.OrderLemmas.{list-without}
use Rattle.roam_rules.specs.RealmTurn.{entries}
use Rattle.roam_rules.proofs.LettingGoLemmas.{sound-without}
use Rattle.roam_rules.proofs.realm_broker.RealmBroker.let_one_go.Goals as goal

pub returns-clause-keeps : goal.returns-clause-keeps
returns-clause-keeps g c =
    let old = c.args.self.now in
    let es = entries g.E.Entries old in
    let become = rw c.index.ensures at c.remove-gone.ensures.entries in
    let kept = c.requires.realm in
    record {
      realm = record {
        kept_here = rw c.remove-gone.ensures.keeps kept.kept_here;
        sound = rw become.here (sound-without old.settings.now es old.numbers.now c.args.ticket
            kept.sound c.requires.done);
        list = rw become.here (list-without c.args.ticket es kept.list);
      };
      loans = record {
        settings = refl;
        same_entries = refl;
        same_numbers = refl;
        keeps = c.remove-gone.ensures.keeps;
      };
      others = become.others;
    }
