use Rattle.std.proofs.Common.{sym, ◌∙◌}
use Rattle.roam_pending.specs.PlainEntry.{has_key}
use Rattle.roam_pending.proofs.FindLemmas.{find-hit}
use Rattle.roam_pending.proofs.list_search.client_in.Goals as goal

-- the entry at this place has the key, and none before it
pub returns-then-is_same_key : goal.returns-then-is_same_key
returns-then-is_same_key g c =
    let same = sym c.is_same_key.ensures ∙ c.if-is_same_key.true in
    find-hit (has_key c.args.key.now) c.args.entries.now c.loop-entry.entry-index c.entry-item.result
    c.loop-entry-test.true c.entry-item.is same c.loop-entry.invariant
