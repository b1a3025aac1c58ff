use Rattle.std.proofs.Common.{arith}
use Rattle.roam_conf.proofs.TextLemmas.{parts-cut}
use Rattle.roam_sim.proofs.places.cut_at_colon.Goals as goal

pub returns : goal.returns
returns c = parts-cut 58 c.args.text.now c.split_once.result c.split_once.ensures.cases (omega arith)
