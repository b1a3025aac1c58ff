-- What the list shows stays.
use Rattle.std.proofs.Common.{◌≡◌, ◌∙◌, ◌-◌, refl, subst, sym}
use Rattle.std.specs.Prelude.{slice_set, vec_capacity, vec_len}
use Rattle.roam_pending.specs.declared.entry.Entry.{Entry}
use Rattle.roam_pending.specs.EntryList.{IsEntryList}
use Rattle.roam_pending.specs.Shown.{shown_all}
use Rattle.roam_pending.proofs.StandingLemmas.{shown-stays}
use Rattle.roam_pending.proofs.pending.Pending.set_course.Goals as goal

pub invariant_of-self : goal.invariant_of-self
invariant_of-self g c =
    let es = c.self.inside.entries.items in
    let old = c.index_mut.result.now in
    let within = rw c.deref.ensures.value at c.in-Some.ensures.none in
    let now : Entry g.row.A.Denot = record old { request = record old.request { course = c.args.course } } in
    subst IsEntryList
    (sym (shown-stays es c.in-Some.place old now within c.index_mut.ensures.value refl)) c.self.invariant

pub returns-in-Some : goal.returns-in-Some
returns-in-Some g c =
    let es = c.self.inside.entries.items in
    let old = c.index_mut.result.now in
    let within = rw c.deref.ensures.value at c.in-Some.ensures.none in
    let now : Entry g.row.A.Denot = record old { request = record old.request { course = c.args.course } } in
    let same : shown_all (slice_set es c.in-Some.place now) ≡ shown_all es =
    shown-stays es c.in-Some.place old now within c.index_mut.ensures.value refl in
    (λ j. record {
      realm = c.self.inside.realm;
      entries = same j;
      spare = vec_capacity c.self.inside.entries - vec_len c.self.inside.entries;
    })
    ∙ c.self.view_is
