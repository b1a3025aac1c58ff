use Rattle.std.proofs.Common.{arith}
use Rattle.std.proofs.lemmas.Grind.{common_steps}
use Rattle.roam_realm.proofs.realm_numbers.new_lanes.Goals as goal

pub loop-place-preserved : goal.loop-place-preserved
loop-place-preserved g c = record {
  count = omega arith;
  room = omega arith;
  cursors = grind (arith, common_steps);
  tags = grind (arith, common_steps);
  made = λ k below server. grind (arith, common_steps, c.loop-place.invariant.made k);
  free = λ k id. grind (arith, common_steps, c.loop-place.invariant.free k id, c.in_ok-new_lane.ensures.free id);
}
