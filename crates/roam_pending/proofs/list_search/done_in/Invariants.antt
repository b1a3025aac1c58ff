use Rattle.std.proofs.Common.{◌≡◌, drop}
use Rattle.std.specs.List.{find}
use Rattle.roam_pending.specs.Shown.{shown_all}
use Rattle.roam_pending.specs.EntryList.{is_done_beside}
use Rattle.roam_pending.proofs.list_search.done_in.Given as goal

-- none before this one is done, but for the one that counts as gone
abbrev pub invariant-loop-entry : goal.invariant-loop-entry
invariant-loop-entry g l = find (is_done_beside l.except) (shown_all (drop l.entry-index l.entries))
    ≡ find (is_done_beside l.except) (shown_all l.entries)
