use Rattle.std.proofs.Common.{ap, sym, ◌∙◌, Some}
use Rattle.roam_pending.specs.declared.entry.Entry.{Entry}
use Rattle.roam_pending.specs.EntryList.{Held, find_ticket}
use Rattle.roam_pending.specs.Shown.{shown}
use Rattle.roam_pending.proofs.PlaceLemmas.{found_at}
use Rattle.roam_pending.proofs.pending.Pending.find_ticket.Goals as goal

-- the entry at the ticket's place
pub returns-in-Some-clause-found : goal.returns-in-Some-clause-found
returns-in-Some-clause-found g c =
    let es = c.self.inside.entries.items in
    let entry = c.index.result.now in
    let within = rw c.deref.ensures.value at c.in-Some.ensures.none in
    let at = rw c.deref.ensures.value at (c.in-Some.ensures.found entry) in
    let found = found_at c.args.ticket es c.in-Some.place entry within at c.self.invariant.in_order in
    ap (λ (e : Entry g.row.A.Denot). Some (shown e)) c.index.ensures ∙ sym found
    ∙ ap (λ (h : Held). find_ticket c.args.ticket h.entries) c.self.view_is
