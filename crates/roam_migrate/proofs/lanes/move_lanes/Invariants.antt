use Rattle.roam_migrate.specs.Private.Moving.{IsMoving}
use Rattle.roam_migrate.proofs.lanes.move_lanes.Given as goal

abbrev pub invariant-loop-place : goal.invariant-loop-place
invariant-loop-place g l = IsMoving l.old l.new l.fn.before.items l.before.items l.after.items l.place
