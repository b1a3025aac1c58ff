use Rattle.std.proofs.Common.{Option, ap, sym, ◌∙◌, refl}
use Rattle.roam_pending.specs.EntryList.{besides}
use Rattle.roam_rules.specs.RealmTurn.{entries}
use Rattle.roam_rules.specs.Replacing.{replaced_ticket}
use Rattle.roam_rules.specs.declared.rules.replaced.Replaced.{Replaced}
use Rattle.roam_rules.proofs.AdmissionLemmas.{replaced-on_link, replaced-waiting, replaced-done, list-besides}
use Rattle.roam_rules.proofs.realm_broker.RealmBroker.take_away_replaced.Goals as goal

-- the entry that goes waits on a link of the realm
pub give_back-requires-clause-link : goal.give_back-requires-clause-link
give_back-requires-clause-link g c =
    let old = c.args.self.now in
    replaced-on_link old.settings.now (entries g.E.Entries old) old.numbers.now c.args.replaced c.in-Some.replaced
    c.in-Some-waits_at.link c.in-Some-waits_at.id c.requires.realm.sound c.requires.replaced c.in-Some.is
    c.in-Some-waits_at.is

-- its Identifier was given back
pub returns-in-Some-waits_at-clause-keeps : goal.returns-in-Some-waits_at-clause-keeps
returns-in-Some-waits_at-clause-keeps g c =
    let old = c.args.self.now in
    let es = entries g.E.Entries old in
    let become = rw c.index.ensures at c.remove-removed.ensures.entries in
    let left = become.here
    ∙ sym (ap (λ (o : Option Replaced). besides (replaced_ticket o) es) c.in-Some.is) in
    let back = c.give_back.ensures in
    let kept = c.requires.realm in
    record {
      realm = record {
        kept_here = rw c.remove-removed.ensures.keeps kept.kept_here;
        sound = rw left (replaced-waiting old.settings.now es old.numbers.now c.give_back.new.self
            c.args.replaced c.in-Some.replaced c.in-Some-waits_at.link c.in-Some-waits_at.id kept.sound
            c.requires.replaced c.in-Some.is c.in-Some-waits_at.is back.tells back.keeps.ticket
            back.keeps.stream_position back.keeps.sessions back.keeps.count back.marks);
        list = rw left (list-besides (replaced_ticket c.args.replaced) es kept.list);
      };
      loans = record {
        settings = refl;
        same_entries = refl;
        same_numbers = refl;
        keeps = c.remove-removed.ensures.keeps;
      };
      others = become.others;
    }

-- it was done, and had none
pub returns-clause-keeps : goal.returns-clause-keeps
returns-clause-keeps g c =
    let old = c.args.self.now in
    let es = entries g.E.Entries old in
    let become = rw c.index.ensures at c.remove-removed.ensures.entries in
    let left = become.here
    ∙ sym (ap (λ (o : Option Replaced). besides (replaced_ticket o) es) c.in-Some.is) in
    let kept = c.requires.realm in
    record {
      realm = record {
        kept_here = rw c.remove-removed.ensures.keeps kept.kept_here;
        sound = rw left (replaced-done old.settings.now es old.numbers.now c.args.replaced c.in-Some.replaced
            kept.sound c.requires.replaced c.in-Some.is c.in_default-waits_at.is);
        list = rw left (list-besides (replaced_ticket c.args.replaced) es kept.list);
      };
      loans = record {
        settings = refl;
        same_entries = refl;
        same_numbers = refl;
        keeps = c.remove-removed.ensures.keeps;
      };
      others = become.others;
    }
