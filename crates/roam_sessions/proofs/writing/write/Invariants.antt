use Rattle.std.proofs.Common.{◌≡◌, ◌++◌, take}
use Rattle.std.specs.List.{flat_map}
use Rattle.roam_sessions.specs.Ledgers.{head, item_text}
use Rattle.roam_sessions.specs.ShownLedgers.{shown_items}
use Rattle.roam_sessions.proofs.writing.write.Given as goal

abbrev pub invariant-loop-item : goal.invariant-loop-item
invariant-loop-item l = l.writing ≡ head ++ flat_map item_text (shown_items (take l.item-index l.items))
