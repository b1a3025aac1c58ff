use Rattle.std.proofs.Common.{arith}
use Rattle.roam_conf.proofs.NameLemmas.{first_set}
use Rattle.roam_conf.proofs.names.key_in.Goals as goal

pub loop-place-init : goal.loop-place-init
loop-place-init c = first_set c.args.buffer.now c.args.kind (omega arith)
