use Rattle.std.specs.Vec.Iter.{into_iter_items, into_iter_len}
use Rattle.std.proofs.Common.{◌≡◌, ◌+◌, ◌≤◌, length, map, vec_len, vec_capacity}
use Rattle.roam_history.specs.Fronts.{AreOfShards, AreWhole, entries_of}
use Rattle.roam_hub.specs.Closing.{AreClosed, all_steps, stored_events, stored_in}
use Rattle.roam_hub.proofs.closing.taken_apart.Given as goal

abbrev pub invariant-loop-lock : goal.invariant-loop-lock
invariant-loop-lock g l = record {
  closed : AreClosed g.N.Opened.opening l.number l.shards.items (all_steps l.fronts.items);
  stored : stored_events l.steps.items ≡ map stored_in (entries_of l.fronts.items);
  of_shards : AreOfShards l.fronts.items;
  whole : AreWhole l.fronts.items;
  few : vec_len l.fronts ≡ l.number;
  shard_count : vec_len l.shards ≡ l.number;
  step_count : vec_len l.steps ≡ l.number;
  shard_room : vec_len l.fn.locks ≤ vec_capacity l.shards;
  step_room : vec_len l.fn.locks ≤ vec_capacity l.steps;
  front_room : vec_len l.fn.locks ≤ vec_capacity l.fronts;
  left : into_iter_len l.lock-iterator ≡ length (into_iter_items l.lock-iterator);
  count : l.number + length (into_iter_items l.lock-iterator) ≡ vec_len l.fn.locks;
}
