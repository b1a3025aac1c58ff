use Rattle.std.proofs.Common.{arith}
use Rattle.std.proofs.lemmas.Grind.{common_steps}
use Rattle.roam_conf_reader.proofs.duplicates.own_endpoints.Goals as goal

pub loop-realm-preserved : goal.loop-realm-preserved
loop-realm-preserved c = grind (arith, common_steps)
