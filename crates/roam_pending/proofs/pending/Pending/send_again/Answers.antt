use Rattle.std.proofs.Common.{ap, subst}
use Rattle.std.specs.Prelude.{slice_set}
use Rattle.roam_pending.specs.declared.entry.Entry.{Entry}
use Rattle.roam_pending.specs.PlainEntry.{PlainStanding}
use Rattle.roam_pending.specs.EntryList.{Held}
use Rattle.roam_pending.specs.Realms.{IsChanged, sent_again, with_standing}
use Rattle.roam_pending.specs.Shown.{shown, shown_all}
use Rattle.roam_pending.proofs.StandingLemmas.{stands-changed, stands-list}
use Rattle.roam_pending.proofs.pending.Pending.send_again.Goals as goal

pub invariant_of-self : goal.invariant_of-self
invariant_of-self g c =
    let old = c.index_mut.result.now in
    let within = rw c.deref.ensures.value at c.in-Some.ensures.none in
    let at = rw c.deref.ensures.value at (c.in-Some.ensures.found old) in
    stands-list c.args.ticket c.self.inside.entries.items c.in-Some.place old c.self.invariant within at
    c.index_mut.ensures.value c.wait_on.new.self

-- it waits on
pub returns-in-Some-clause-entries : goal.returns-in-Some-clause-entries
returns-in-Some-clause-entries g c =
    let es = c.self.inside.entries.items in
    let old = c.index_mut.result.now in
    let within = rw c.deref.ensures.value at c.in-Some.ensures.none in
    let at = rw c.deref.ensures.value at (c.in-Some.ensures.found old) in
    let change = sent_again c.args.deadline in
    let same = ap (λ (s : PlainStanding). with_standing s (shown old)) c.wait_on.ensures in
    let changed = stands-changed c.args.ticket es c.in-Some.place old c.self.invariant within at
    c.index_mut.ensures.value c.wait_on.new.self change same in
    let new : Entry g.row.A.Denot =
    record { request = old.request; ticket = old.ticket; standing = c.wait_on.new.self } in
    subst (λ (h : Held). IsChanged change c.args.ticket h.entries (shown_all (slice_set es c.in-Some.place new)))
    c.self.view_is changed
