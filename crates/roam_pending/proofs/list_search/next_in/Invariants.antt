use Rattle.std.specs.Prelude.{take}
use Rattle.roam_pending.specs.ListLaws.{IsNextAfter}
use Rattle.roam_pending.specs.Shown.{shown_all}
use Rattle.roam_pending.proofs.list_search.next_in.Given as goal

-- the first of those that were seen
abbrev pub invariant-loop-entry : goal.invariant-loop-entry
invariant-loop-entry g l = IsNextAfter l.last (shown_all (take l.entry-index l.entries)) l.first
