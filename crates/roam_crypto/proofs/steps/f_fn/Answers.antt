use Rattle.roam_crypto.proofs.StepLemmas.{f_same}
use Rattle.roam_crypto.proofs.steps.f_fn.Goals as goal

pub returns : goal.returns
returns c = f_same c.args.x c.args.y c.args.z c.ranges.x.fits c.ranges.y.fits c.ranges.z.fits
