use Rattle.roam_migrate.proofs.MovedRestLemmas.{AreRestsTo}
use Rattle.roam_migrate.proofs.rests.move_rests.Given as goal

abbrev pub invariant-loop-place : goal.invariant-loop-place
invariant-loop-place g l = AreRestsTo l.old l.new l.before l.after.items l.place
