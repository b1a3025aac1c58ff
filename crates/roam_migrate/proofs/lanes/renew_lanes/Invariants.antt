use Rattle.std.proofs.Common.{◌≡◌, take, vec_capacity}
use Rattle.roam_migrate.specs.Private.Moving.{AreRenewed}
use Rattle.roam_migrate.proofs.lanes.renew_lanes.Given as goal

abbrev pub invariant-loop-peer : goal.invariant-loop-peer
invariant-loop-peer g l = record {
  renewed : AreRenewed l.old l.new (take l.peer-index l.changed) l.fn.lanes.items l.lanes.items;
  capacity : vec_capacity l.lanes ≡ vec_capacity l.fn.lanes;
}
