use Rattle.std.proofs.Common.{◌≤◌, vec_len, vec_capacity, ◌≡◌}
use Rattle.roam_migrate.specs.Private.MoreLanes.{AreMoreLanes}
use Rattle.roam_migrate.proofs.reload.push_lanes.Given as goal

abbrev pub invariant-loop-place : goal.invariant-loop-place
invariant-loop-place g l = record {
  more : AreMoreLanes l.settings l.place l.fn.lanes.items l.lanes.items;
  room : l.count ≤ vec_capacity l.lanes;
  here : vec_len l.lanes ≡ l.place;
}
