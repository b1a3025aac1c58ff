-- One cause after the other.
use Rattle.std.proofs.Common.{◌∙◌}
use Rattle.roam_workers.proofs.told_losses.tell_losses.Goals as goal

pub loop-at-preserved : goal.loop-at-preserved
loop-at-preserved g c = (
  c.tell_cause.ensures.kept.0 ∙ c.loop-at.invariant.0,
  c.tell_cause.ensures.kept.1 ∙ c.loop-at.invariant.1,
  c.tell_cause.ensures.kept.2 ∙ c.loop-at.invariant.2,
)
