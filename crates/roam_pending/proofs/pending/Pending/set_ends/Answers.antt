use Rattle.std.proofs.Common.{ap, subst}
use Rattle.std.specs.Prelude.{slice_set}
use Rattle.roam_pending.specs.EntryList.{Held}
use Rattle.roam_pending.specs.PlainEntry.{PlainEntry}
use Rattle.roam_pending.specs.Realms.{IsChanged, with_ends}
use Rattle.roam_pending.specs.Shown.{shown_all}
use Rattle.roam_pending.proofs.StandingLemmas.{entry-changed, entry-list}
use Rattle.roam_pending.proofs.pending.Pending.set_ends.Goals as goal

pub invariant_of-self : goal.invariant_of-self
invariant_of-self g c =
    let old = c.index_mut.result.now in
    let within = rw c.deref.ensures.value at c.in-Some.ensures.none in
    let at = rw c.deref.ensures.value at (c.in-Some.ensures.found old) in
    entry-list c.args.ticket c.self.inside.entries.items c.in-Some.place old c.self.invariant within at
    c.index_mut.ensures.value c.set_ends.new.self (ap (λ (e : PlainEntry). e.ticket) c.set_ends.ensures)
    (ap (λ (e : PlainEntry). e.request.key) c.set_ends.ensures)

-- it has other ends
pub returns-in-Some-clause-entries : goal.returns-in-Some-clause-entries
returns-in-Some-clause-entries g c =
    let es = c.self.inside.entries.items in
    let old = c.index_mut.result.now in
    let within = rw c.deref.ensures.value at c.in-Some.ensures.none in
    let at = rw c.deref.ensures.value at (c.in-Some.ensures.found old) in
    let change = with_ends c.args.home c.args.link in
    let changed = entry-changed c.args.ticket es c.in-Some.place old c.self.invariant within at
    c.index_mut.ensures.value c.set_ends.new.self (ap (λ (e : PlainEntry). e.ticket) c.set_ends.ensures)
    (ap (λ (e : PlainEntry). e.request.key) c.set_ends.ensures) change c.set_ends.ensures in
    subst (λ (h : Held). IsChanged change c.args.ticket h.entries
    (shown_all (slice_set es c.in-Some.place c.set_ends.new.self))) c.self.view_is changed
