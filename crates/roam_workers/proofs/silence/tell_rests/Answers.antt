-- One realm after the other.
use Rattle.std.proofs.Common.{◌∙◌}
use Rattle.roam_workers.proofs.silence.tell_rests.Goals as goal

pub loop-number-preserved : goal.loop-number-preserved
loop-number-preserved g c = (
  c.tell_realm.ensures.kept.0 ∙ c.loop-number.invariant.0,
  c.tell_realm.ensures.kept.1 ∙ c.loop-number.invariant.1,
  c.tell_realm.ensures.kept.2 ∙ c.loop-number.invariant.2,
)
