use Rattle.std.specs.Vec.Iter.{into_iter_items, into_iter_len}
use Rattle.std.proofs.Common.{◌≡◌, ◌≤◌, length, vec_len, vec_capacity}
use Rattle.roam_hub.proofs.PauseLemmas.{ArePausedSoFar}
use Rattle.roam_hub.proofs.pausing.all_paused.Given as goal

abbrev pub invariant-loop-shard : goal.invariant-loop-shard
invariant-loop-shard g l = record {
  paused : ArePausedSoFar l.fn.shards.items (into_iter_items l.shard-iterator) l.paused.items;
  left : into_iter_len l.shard-iterator ≡ length (into_iter_items l.shard-iterator);
  room : vec_len l.fn.shards ≤ vec_capacity l.paused;
}
