use Rattle.std.proofs.Common.{◌≡◌, ◌≤◌}
use Rattle.roam_realm.specs.Private.Looking.{used_below}
use Rattle.roam_realm.proofs.gauges.in_use.Given as goal

-- those that were looked at
abbrev pub invariant-loop-id : goal.invariant-loop-id
invariant-loop-id g l = (l.count ≡ used_below l.lane l.id) × (l.count ≤ l.id)
