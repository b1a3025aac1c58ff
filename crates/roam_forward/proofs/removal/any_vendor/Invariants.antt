use Rattle.std.proofs.Common.{◌≡◌, false, take}
use Rattle.std.specs.List.{list_any}
use Rattle.roam_forward.specs.Removal.{is_vendor}
use Rattle.roam_forward.proofs.removal.any_vendor.Given as goal

-- none so far is it
abbrev pub invariant-loop-removed : goal.invariant-loop-removed
invariant-loop-removed l = list_any (is_vendor l.vendor) (take l.removed-index l.list) ≡ false
