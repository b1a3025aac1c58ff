use Rattle.std.proofs.Common.{ℕ, Option, ap, sym, ◌∙◌}
use Rattle.std.specs.Prelude.{option_map}
use Rattle.roam_pending.specs.PlainEntry.{PlainEntry}
use Rattle.roam_pending.specs.EntryList.{is_done_beside}
use Rattle.roam_pending.specs.Shown.{shown_all}
use Rattle.roam_pending.proofs.FindLemmas.{find-hit, find-none, find-skip, first_done-besides}
use Rattle.roam_pending.proofs.list_search.done_in.Goals as goal

-- the ticket of what is found
ticket_of : Option PlainEntry → Option ℕ
ticket_of o = option_map (λ (e : PlainEntry). e.ticket) o

-- the entry at this place is done, and none before it
pub returns-then-is_done_besides : goal.returns-then-is_done_besides
unfolding ticket_of
returns-then-is_done_besides g c =
    let passes = sym c.is_done_besides.ensures ∙ c.if-is_done_besides.true in
    let found = find-hit (is_done_beside c.args.except) c.args.entries.now c.loop-entry.entry-index
    c.entry-item.result c.loop-entry-test.true c.entry-item.is passes c.loop-entry.invariant in
    ap ticket_of found ∙ sym (first_done-besides c.args.except (shown_all c.args.entries.now))

-- it isn't
pub loop-entry-preserved : goal.loop-entry-preserved
loop-entry-preserved g c =
    let fails = sym c.is_done_besides.ensures ∙ c.if-is_done_besides.false in
    find-skip (is_done_beside c.args.except) c.args.entries.now c.loop-entry.entry-index c.entry-item.result
    c.loop-entry-test.true c.entry-item.is fails c.loop-entry.invariant

-- no entry is left
pub returns : goal.returns
unfolding ticket_of
returns g c =
    let nothing = find-none (is_done_beside c.args.except) c.args.entries.now c.loop-entry.entry-index
    c.loop-entry-test.false c.loop-entry.invariant in
    ap ticket_of nothing ∙ sym (first_done-besides c.args.except (shown_all c.args.entries.now))
