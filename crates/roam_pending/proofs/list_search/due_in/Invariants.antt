use Rattle.std.proofs.Common.{◌≡◌, drop}
use Rattle.roam_pending.specs.DueOrder.{due_after}
use Rattle.roam_pending.specs.Private.DueSearch.{earlier}
use Rattle.roam_pending.specs.Shown.{shown_all}
use Rattle.roam_pending.proofs.list_search.due_in.Given as goal

-- the least so far, or what is least from here on
abbrev pub invariant-loop-entry : goal.invariant-loop-entry
invariant-loop-entry g l = earlier l.first (due_after l.now l.last (shown_all (drop l.entry-index l.entries)))
    ≡ due_after l.now l.last (shown_all l.entries)
