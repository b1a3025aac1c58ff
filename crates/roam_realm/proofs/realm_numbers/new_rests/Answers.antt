use Rattle.std.proofs.Common.{arith}
use Rattle.std.proofs.lemmas.Grind.{common_steps}
use Rattle.roam_realm.proofs.realm_numbers.new_rests.Goals as goal

pub loop-place-preserved : goal.loop-place-preserved
loop-place-preserved g c = record {
  count = omega arith;
  room = omega arith;
  awake = grind (arith, common_steps);
}
