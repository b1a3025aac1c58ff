use Rattle.std.proofs.Common.{◌≡◌, ◌≤◌, vec_len, vec_capacity}
use Rattle.roam_conf.specs.Shown.{shown}
use Rattle.roam_shard.proofs.FollowingHubLemmas.{AreReadySoFar}
use Rattle.roam_shard.proofs.following_hub.all_reserved.Given as goal

abbrev pub invariant-loop-number : goal.invariant-loop-number
invariant-loop-number g l = record {
  ready : AreReadySoFar (shown l.old) (shown l.new) l.fn.shards.items l.shards.items l.fresh.items l.number;
  count : vec_len l.shards ≡ vec_len l.fn.shards;
  room : vec_len l.fn.shards ≤ vec_capacity l.fresh;
}
