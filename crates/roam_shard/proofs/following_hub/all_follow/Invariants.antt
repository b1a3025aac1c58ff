use Rattle.std.specs.Vec.Iter.{into_iter_items, into_iter_len}
use Rattle.std.proofs.Common.{◌≡◌, ◌+◌, ℕ, length, slice_get}
use Rattle.roam_conf.specs.Shown.{shown}
use Rattle.roam_shard.proofs.FollowingHubLemmas.{HaveFollowedSoFar}
use Rattle.roam_shard.proofs.following_hub.all_follow.Given as goal

abbrev pub invariant-loop-numbers : goal.invariant-loop-numbers
invariant-loop-numbers g l = record {
  followed : HaveFollowedSoFar (shown l.old) (shown l.new) l.fn.shards.items l.shards.items l.number;
  behind : (k : ℕ) → slice_get (into_iter_items l.numbers-iterator) k ≡ slice_get l.fn.fresh.items (l.number + k);
  left : into_iter_len l.numbers-iterator ≡ length (into_iter_items l.numbers-iterator);
  count : l.number + length (into_iter_items l.numbers-iterator) ≡ length l.fn.fresh.items;
}
