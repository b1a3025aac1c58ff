use Rattle.roam_crypto.proofs.StepLemmas.{xor_regrouped}
use Rattle.roam_crypto.proofs.steps.h_fn.Goals as goal

pub returns-then-t-eq0 : goal.returns-then-t-eq0
returns-then-t-eq0 c = xor_regrouped c.args.x c.args.y c.args.z
