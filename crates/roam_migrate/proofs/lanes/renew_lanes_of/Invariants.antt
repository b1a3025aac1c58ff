use Rattle.std.proofs.Common.{◌≡◌, vec_capacity}
use Rattle.roam_migrate.proofs.PeerLanesLemmas.{AreRenewedTo}
use Rattle.roam_migrate.proofs.lanes.renew_lanes_of.Given as goal

-- those by the `out` that were passed began anew
abbrev pub invariant-loop-out : goal.invariant-loop-out
invariant-loop-out g l = record {
  renewed : AreRenewedTo l.old l.new l.peer l.out l.fn.lanes.items l.lanes.items;
  capacity : vec_capacity l.lanes ≡ vec_capacity l.fn.lanes;
}
