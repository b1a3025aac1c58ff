-- One shard is taken after the other.
use Rattle.std.proofs.Common.{[], List, length, ap, sym, subst, ◌∙◌, arith}
use Rattle.std.specs.Vec.Iter.{into_iter_items}
use Rattle.roam_shard.specs.ShardView.{ShardView}
use Rattle.roam_hub.proofs.PauseLemmas.{ArePausedSoFar, all_paused, none_paused, one_more_paused}
use Rattle.roam_hub.proofs.pausing.all_paused.Goals as goal

pub loop-shard-init : goal.loop-shard-init
loop-shard-init g c =
    let iter = c.into_iter-shard-iterator.ensures.into_iter_gives in
    let shards = c.args.shards.items in
    record {
      paused = rw c.requires.empty (subst (λ (l : List ShardView). ArePausedSoFar shards l []) (sym iter.0)
          (none_paused shards));
      left = iter.1 ∙ c.args.shards.ok.0 ∙ ap length (sym iter.0);
      room = c.requires.room;
    }

pub push_reserved-requires : goal.push_reserved-requires
push_reserved-requires g c =
    let inv = c.loop-shard.invariant in
    let short = ap length c.in-Some.ensures.steps.0 in
    let count = inv.paused.count in
    omega (arith, short, count, inv.room, c.args.shards.ok.0, c.loop-shard.paused.ok.0)

pub loop-shard-preserved : goal.loop-shard-preserved
loop-shard-preserved g c =
    let inv = c.loop-shard.invariant in
    let steps = c.in-Some.ensures.steps in
    let short = ap length steps.0 in
    record {
      paused = rw c.push_reserved.ensures.items
          (one_more_paused c.args.shards.items (into_iter_items c.loop-shard.shard-iterator) c.loop-shard.paused.items
          c.in-Some.shard _ c.pause.result inv.paused steps.0
          (record { shard = c.pause.ensures.shard; stands = c.pause.ensures.stands; states = c.pause.ensures.states }));
      left = omega (arith, short, steps.1, inv.left);
      room = (let same = c.push_reserved.ensures.capacity in omega (arith, same, inv.room));
    }

pub returns : goal.returns
returns g c =
    let inv = c.loop-shard.invariant in
    all_paused c.args.shards.items (into_iter_items c.loop-shard.shard-iterator) c.loop-shard.paused.items inv.paused
    (sym inv.left ∙ c.in-None.ensures.steps.0)
