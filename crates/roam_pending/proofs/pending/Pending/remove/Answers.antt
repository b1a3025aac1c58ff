use Rattle.std.proofs.Common.{◌≡◌, ap, sym, ◌∙◌, subst, Some, None}
use Rattle.roam_pending.specs.declared.entry.Entry.{Entry}
use Rattle.roam_pending.specs.EntryList.{Held, IsEntryList, find_ticket, without}
use Rattle.roam_pending.specs.Shown.{shown, shown_all}
use Rattle.roam_pending.proofs.OrderLemmas.{list-without, without-absent}
use Rattle.roam_pending.proofs.PlaceLemmas.{found_at, removed_at}
use Rattle.roam_pending.proofs.pending.Pending.remove.Goals as goal

-- the others stay
rest : (g : _) (c : goal.After-remove g) →
    shown_all c.remove.new.self.items ≡ without c.args.ticket (shown_all c.self.inside.entries.items)
rest g c =
    let es = c.self.inside.entries.items in
    let within = rw c.deref.ensures.value at c.in-Some.ensures.none in
    let at = rw c.deref.ensures.value at (c.in-Some.ensures.found c.remove.result) in
    ap shown_all c.remove.ensures.items
    ∙ removed_at c.args.ticket es c.in-Some.place c.remove.result within at c.self.invariant.in_order

pub invariant_of-self : goal.invariant_of-self
invariant_of-self g c = subst IsEntryList (sym (rest g c))
    (list-without c.args.ticket (shown_all c.self.inside.entries.items) c.self.invariant)

pub returns-in-Some-clause-entries : goal.returns-in-Some-clause-entries
returns-in-Some-clause-entries g c = rest g c ∙ ap (λ (h : Held). without c.args.ticket h.entries) c.self.view_is

-- the entry at the ticket's place comes out
pub returns-in-Some-clause-found : goal.returns-in-Some-clause-found
returns-in-Some-clause-found g c =
    let es = c.self.inside.entries.items in
    let within = rw c.deref.ensures.value at c.in-Some.ensures.none in
    let at = rw c.deref.ensures.value at (c.in-Some.ensures.found c.remove.result) in
    let found = found_at c.args.ticket es c.in-Some.place c.remove.result within at c.self.invariant.in_order in
    ap (λ (e : Entry g.row.A.Denot). Some (shown e)) c.remove.ensures.value ∙ sym found
    ∙ ap (λ (h : Held). find_ticket c.args.ticket h.entries) c.self.view_is

-- no entry has the ticket
pub returns-in-None-clause-entries : goal.returns-in-None-clause-entries
returns-in-None-clause-entries g c =
    let none : find_ticket c.args.ticket (shown_all c.self.inside.entries.items) ≡ None =
    rw c.deref.ensures.value at c.in-None.ensures.none in
    sym (without-absent c.args.ticket c.args.self.now.entries
    (ap (λ (h : Held). find_ticket c.args.ticket h.entries) (sym c.self.view_is) ∙ none))
