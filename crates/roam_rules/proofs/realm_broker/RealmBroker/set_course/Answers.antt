use Rattle.std.proofs.Common.{ℕ, List, ap, refl, subst, sym}
use Rattle.roam_pending.specs.EntryList.{IsEntryList}
use Rattle.roam_pending.specs.PlainEntry.{PlainEntry}
use Rattle.roam_realm.specs.Sound.{IsSound, state_of}
use Rattle.roam_rules.proofs.realm_broker.RealmBroker.set_course.Goals as goal

-- no entry is seen to change
pub returns-clause-state : goal.returns-clause-state
returns-clause-state g c =
    let old = c.args.self.now in
    ap (λ (of : ℕ → List PlainEntry). state_of (of old.settings.now.index) old.numbers.now)
    c.set_course.ensures.entries

pub returns-clause-keeps : goal.returns-clause-keeps
returns-clause-keeps g c =
    let old = c.args.self.now in
    let kept = c.requires.realm in
    let here = ap (λ (of : ℕ → List PlainEntry). of old.settings.now.index) (sym c.set_course.ensures.entries) in
    record {
      realm = record {
        kept_here = rw c.set_course.ensures.keeps kept.kept_here;
        sound = subst (λ (es : List PlainEntry). IsSound old.settings.now es old.numbers.now) here kept.sound;
        list = subst IsEntryList here kept.list;
      };
      loans = record {
        settings = refl;
        same_entries = refl;
        same_numbers = refl;
        keeps = c.set_course.ensures.keeps;
      };
      others = λ r ne. ap (λ (of : ℕ → List PlainEntry). of r) c.set_course.ensures.entries;
    }
