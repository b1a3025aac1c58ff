use Rattle.std.proofs.Common.{refl, slice_index}
use Rattle.roam_crypto.proofs.StepLemmas.{add32_regrouped}
use Rattle.roam_crypto.proofs.steps.round.Goals as goal

pub returns : goal.returns
returns c = rw (c.rotate_left.ensures, add32_regrouped (slice_index c.args.v 0) c.args.f c.args.k c.args.word) refl
