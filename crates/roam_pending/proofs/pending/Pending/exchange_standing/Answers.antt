use Rattle.std.proofs.Common.{◌≡◌, ap, subst}
use Rattle.std.specs.Prelude.{IfSome, slice_set}
use Rattle.roam_pending.specs.declared.entry.Entry.{Entry}
use Rattle.roam_pending.specs.declared.entry.Standing.{Standing}
use Rattle.roam_pending.specs.EntryList.{Held, find_ticket}
use Rattle.roam_pending.specs.Realms.{IsChanged, with_standing}
use Rattle.roam_pending.specs.Shown.{shown, shown_all, shown_standing}
use Rattle.roam_pending.proofs.StandingLemmas.{stands-changed, stands-list, stood}
use Rattle.roam_pending.proofs.pending.Pending.exchange_standing.Goals as goal

pub invariant_of-self : goal.invariant_of-self
invariant_of-self g c =
    let old = c.index_mut.result.now in
    let within = rw c.deref.ensures.value at c.in-Some.ensures.none in
    let at = rw c.deref.ensures.value at (c.in-Some.ensures.found old) in
    stands-list c.args.ticket c.self.inside.entries.items c.in-Some.place old c.self.invariant within at
    c.index_mut.ensures.value c.swap.new.x

-- how it stood comes back
pub returns-in-Some-clause-exchanged : goal.returns-in-Some-clause-exchanged
returns-in-Some-clause-exchanged g c =
    let old = c.index_mut.result.now in
    let within = rw c.deref.ensures.value at c.in-Some.ensures.none in
    let at = rw c.deref.ensures.value at (c.in-Some.ensures.found old) in
    let stood_so = stood c.args.ticket c.self.inside.entries.items c.in-Some.place old c.self.invariant within at
    c.index_mut.ensures.value (shown_standing c.swap.new.y)
    (ap (λ (s : Standing g.row.A.Denot). shown_standing s) c.swap.ensures.y_after) in
    subst (λ (h : Held). IfSome (find_ticket c.args.ticket h.entries)
    (λ e. shown_standing c.swap.new.y ≡ e.standing)) c.self.view_is stood_so

-- it stands as was asked
pub returns-in-Some-clause-entries : goal.returns-in-Some-clause-entries
returns-in-Some-clause-entries g c =
    let es = c.self.inside.entries.items in
    let old = c.index_mut.result.now in
    let within = rw c.deref.ensures.value at c.in-Some.ensures.none in
    let at = rw c.deref.ensures.value at (c.in-Some.ensures.found old) in
    let change = with_standing (shown_standing c.args.standing.now) in
    let same = ap (λ (s : Standing g.row.A.Denot). with_standing (shown_standing s) (shown old))
    c.swap.ensures.x_after in
    let changed = stands-changed c.args.ticket es c.in-Some.place old c.self.invariant within at
    c.index_mut.ensures.value c.swap.new.x change same in
    let new : Entry g.row.A.Denot = record { request = old.request; ticket = old.ticket; standing = c.swap.new.x } in
    subst (λ (h : Held). IsChanged change c.args.ticket h.entries (shown_all (slice_set es c.in-Some.place new)))
    c.self.view_is changed
