use Rattle.std.proofs.Common.{Some, refl}
use Rattle.roam_pending.proofs.OrderLemmas.{list-without}
use Rattle.roam_rules.specs.RealmTurn.{entries}
use Rattle.roam_rules.proofs.AdmissionLemmas.{plan-sound}
use Rattle.roam_rules.proofs.realm_broker.RealmBroker.take_away_done.Goals as goal

-- a done entry holds no Identifier
pub returns-in-Some-clause-keeps : goal.returns-in-Some-clause-keeps
returns-in-Some-clause-keeps g c =
    let old = c.args.self.now in
    let es = entries g.E.Entries old in
    let become = rw c.index.ensures at c.remove-done.ensures.entries in
    let done = rw c.in-Some.is at c.requires.done in
    let kept = c.requires.realm in
    record {
      realm = record {
        kept_here = rw c.remove-done.ensures.keeps kept.kept_here;
        sound = rw become.here (plan-sound old.settings.now es old.numbers.now (Some c.in-Some.ticket)
            kept.sound kept.list done);
        list = rw become.here (list-without c.in-Some.ticket es kept.list);
      };
      loans = record {
        settings = refl;
        same_entries = refl;
        same_numbers = refl;
        keeps = c.remove-done.ensures.keeps;
      };
      others = become.others;
    }
