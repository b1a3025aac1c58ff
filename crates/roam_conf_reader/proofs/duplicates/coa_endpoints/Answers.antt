use Rattle.std.proofs.Common.{arith}
use Rattle.std.proofs.lemmas.Grind.{common_steps}
use Rattle.roam_conf_reader.proofs.duplicates.coa_endpoints.Goals as goal

pub loop-peer-preserved : goal.loop-peer-preserved
loop-peer-preserved c = grind (arith, common_steps)
