use Rattle.std.proofs.Common.{refl}
use Rattle.roam_rules.specs.RealmTurn.{entries}
use Rattle.roam_realm.proofs.SoundLemmas.{rests-sound}
use Rattle.roam_rules.proofs.realm_broker.RealmBroker.choose.Goals as goal

-- another rest is all that changes
pub returns-clause-keeps : goal.returns-clause-keeps
returns-clause-keeps g c =
    let old = c.args.self.now in
    let kept = c.requires.realm in
    record {
      realm = record {
        kept_here = kept.kept_here;
        sound = rests-sound old.settings.now (entries g.E.Entries old) _ old.numbers.now c.put_off_unless.new.self
            kept.sound
            c.put_off_unless.ensures;
        list = kept.list;
      };
      loans = record { settings = refl; same_entries = refl; same_numbers = refl; keeps = refl };
      others = λ r differs. refl;
    }
