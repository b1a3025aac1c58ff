use Rattle.std.proofs.Common.{◌≡◌, drop}
use Rattle.roam_pending.specs.EntryList.{find_client}
use Rattle.roam_pending.specs.Shown.{shown_all}
use Rattle.roam_pending.proofs.list_search.client_in.Given as goal

-- none before this one has the key
abbrev pub invariant-loop-entry : goal.invariant-loop-entry
invariant-loop-entry g l = find_client l.key (shown_all (drop l.entry-index l.entries))
    ≡ find_client l.key (shown_all l.entries)
