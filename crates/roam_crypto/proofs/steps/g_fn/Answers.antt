use Rattle.roam_crypto.proofs.StepLemmas.{g_same}
use Rattle.roam_crypto.proofs.steps.g_fn.Goals as goal

pub returns : goal.returns
returns c = g_same c.args.x c.args.y c.args.z c.ranges.x.fits c.ranges.y.fits c.ranges.z.fits
