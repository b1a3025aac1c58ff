use Rattle.std.proofs.Common.{◌≡◌, ℕ, List, ap, ◌∙◌, refl, subst, sym, true, Some}
use Rattle.roam_pending.specs.PlainEntry.{PlainEntry, waits_at}
use Rattle.roam_pending.specs.EntryList.{IsEntryList, find_ticket}
use Rattle.roam_pending.proofs.ChangeLemmas.{found-ticket}
use Rattle.roam_sessions.specs.ShownSessions.{Ledger}
use Rattle.roam_rules.specs.RealmTurn.{entries}
use Rattle.roam_realm.specs.Sound.{IsSound}
use Rattle.roam_rules.proofs.ReplyLemmas.{done-sound, found-with, list-standing}
use Rattle.roam_rules.proofs.realm_broker.RealmBroker.settle.Goals as goal

-- the entry is done, and its Identifier is free
pub returns-clause-keeps : goal.returns-clause-keeps
returns-clause-keeps g c =
    let old = c.args.self.now in
    let config = old.settings.now in
    let es = entries g.E.Entries old in
    let t = c.args.settled.ticket in
    let can = c.requires.settled in
    let found = found-with (find_ticket t es)
    (λ (x : PlainEntry). waits_at c.args.settled.link c.args.settled.id x ≡ true) can.1 in
    let here : find_ticket found.0.ticket es ≡ Some found.0 =
    ap (λ (n : ℕ). find_ticket n es) (found-ticket t es found.0 found.1) ∙ found.1 in
    let become = rw (c.index.ensures, found.1) at c.in_ok-hold_standing.ensures.entries in
    let back = c.give_back.ensures in
    let woken = c.hear.ensures in
    let lanes = woken.lanes in
    record {
      realm = record {
        kept_here = rw c.hold_standing.ensures.keeps c.requires.realm.kept_here;
        sound = done-sound config t found.0 es _ c.args.settled.done.reply c.args.settled.done.deadline
            c.args.settled.done.from old.numbers.now c.hear.new.self c.requires.realm.sound found.1 become.here
            (rw lanes (back.tells found.0 es c.requires.realm.sound.lanes_tell here found.2))
            (rw lanes back.keeps.count) (woken.ticket ∙ back.keeps.ticket)
            (woken.stream_position ∙ back.keeps.stream_position)
            (rw lanes back.marks)
            (ap (λ (l : Ledger). l.limit) woken.sessions ∙ ap (λ (l : Ledger). l.limit) back.keeps.sessions);
        list = rw become.here (list-standing _ found.0 es c.requires.realm.list here);
      };
      loans = record {
        settings = refl;
        same_entries = refl;
        same_numbers = refl;
        keeps = c.hold_standing.ensures.keeps;
      };
      others = become.others;
    }

-- no memory was had, and the realm is as it was
pub returns-in_err-hold_standing-clause-keeps : goal.returns-in_err-hold_standing-clause-keeps
returns-in_err-hold_standing-clause-keeps g c =
    let old = c.args.self.now in
    let config = old.settings.now in
    let same = c.in_err-hold_standing.ensures.err in
    let here = ap (λ (of : ℕ → List PlainEntry). of config.index) same in
    record {
      realm = record {
        kept_here = rw c.hold_standing.ensures.keeps c.requires.realm.kept_here;
        sound = subst (λ (es : List PlainEntry). IsSound config es old.numbers.now) (sym here) c.requires.realm.sound;
        list = subst IsEntryList (sym here) c.requires.realm.list;
      };
      loans = record {
        settings = refl;
        same_entries = refl;
        same_numbers = refl;
        keeps = c.hold_standing.ensures.keeps;
      };
      others = λ r differs. ap (λ (of : ℕ → List PlainEntry). of r) same;
    }
