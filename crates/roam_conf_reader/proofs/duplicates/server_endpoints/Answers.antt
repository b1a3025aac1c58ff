use Rattle.std.proofs.Common.{arith}
use Rattle.std.proofs.lemmas.Grind.{common_steps}
use Rattle.roam_conf_reader.proofs.duplicates.server_endpoints.Goals as goal

pub loop-server-preserved : goal.loop-server-preserved
loop-server-preserved c = grind (arith, common_steps)
