use Rattle.std.proofs.Common.{◌≡◌, ◌++◌, ◌∷◌, [], List, length, map, refl, ap, sym, ◌∙◌, arith}
use Rattle.std.proofs.lemmas.List.{map-append}
use Rattle.roam_history.specs.Entries.{HistoryEntry}
use Rattle.roam_history.specs.Fronts.{FrontView, entries_of}
use Rattle.roam_history.specs.Shown.{all_in, items_of}
use Rattle.roam_hub.specs.Closing.{all_steps, stored_events, stored_in}
use Rattle.roam_hub.proofs.HubLemmas.{no_shards, none_closed, none_whole, one_more_closed, push_shards, push_whole}
use Rattle.roam_hub.proofs.closing.taken_apart.Goals as goal

pub loop-lock-init : goal.loop-lock-init
loop-lock-init g c =
    let iter = c.into_iter-lock-iterator.ensures.into_iter_gives in
    record {
      closed = rw (c.requires.shards.empty, c.requires.fronts.empty) (none_closed g.N.Opened.opening);
      stored = rw (c.requires.steps.empty, c.requires.fronts.empty) refl;
      of_shards = rw c.requires.fronts.empty no_shards;
      whole = rw c.requires.fronts.empty none_whole;
      few = c.args.fronts.ok.0 ∙ ap length c.requires.fronts.empty;
      shard_count = c.args.shards.ok.0 ∙ ap length c.requires.shards.empty;
      step_count = c.args.steps.ok.0 ∙ ap length c.requires.steps.empty;
      shard_room = c.requires.shards.room;
      step_room = c.requires.steps.room;
      front_room = c.requires.fronts.room;
      left = iter.1 ∙ c.args.locks.ok.0 ∙ ap length (sym iter.0);
      count = (let n = ap length iter.0 in omega (arith, n, c.args.locks.ok.0));
    }

pub push_reserved-requires : goal.push_reserved-requires
push_reserved-requires g c =
    let inv = c.loop-lock.invariant in
    let short = ap length c.in-Some.ensures.steps.0 in
    omega (arith, short, inv.count, inv.shard_count, inv.shard_room)

pub push_reserved-requires-in-loop-lock : goal.push_reserved-requires-in-loop-lock
push_reserved-requires-in-loop-lock g c =
    let inv = c.loop-lock.invariant in
    let short = ap length c.in-Some.ensures.steps.0 in
    omega (arith, short, inv.count, inv.step_count, inv.step_room)

pub push_reserved-requires-in-loop-lock-2 : goal.push_reserved-requires-in-loop-lock-2
push_reserved-requires-in-loop-lock-2 g c =
    let inv = c.loop-lock.invariant in
    let short = ap length c.in-Some.ensures.steps.0 in
    omega (arith, short, inv.count, inv.few, inv.front_room)

pub loop-lock-preserved : goal.loop-lock-preserved
loop-lock-preserved g c =
    let inv = c.loop-lock.invariant in
    let steps = c.in-Some.ensures.steps in
    let short = ap length steps.0 in
    let one = c.in_ok-shard.ensures in
    let front : FrontView = c.in_ok-shard.front in
    let fronts = c.loop-lock.fronts.items in
    let more = ap (λ l. all_steps l) c.push_reserved-in-loop-lock-2.ensures.items
    ∙ map-append all_in fronts (front ∷ []) in
    let stored = ap (λ l. stored_events l) c.push_reserved-in-loop-lock.ensures.items
    ∙ map-append items_of c.loop-lock.steps.items (c.in_ok-shard.its_steps ∷ []) in
    let entries : entries_of (fronts ++ front ∷ []) ≡ entries_of fronts ++ front.entries ∷ [] =
    map-append (λ (f : FrontView). f.entries) fronts (front ∷ []) in
    let all : map stored_in (entries_of (fronts ++ front ∷ [])) ≡ map stored_in (entries_of fronts)
    ++ stored_in front.entries ∷ [] =
    ap (λ (l : List (List HistoryEntry)). map stored_in l) entries
    ∙ map-append stored_in (entries_of fronts) (front.entries ∷ []) in
    record {
      closed = rw (
        c.push_reserved.ensures.items,
        more,
      ) (one_more_closed g.N.Opened.opening c.loop-lock.number c.loop-lock.shards.items (all_steps fronts)
          c.in_ok-shard.shard (all_in front) inv.closed
          (record { shard = one.its_shard; config = one.config; states = one.states; history = one.history }));
      stored =
          stored
          ∙ ((λ j. inv.stored j ++ one.steps j ∷ [])
          ∙ (sym all ∙ ap (λ (l : List FrontView). map stored_in (entries_of l))
          (sym c.push_reserved-in-loop-lock-2.ensures.items)));
      of_shards = rw c.push_reserved-in-loop-lock-2.ensures.items
          (push_shards fronts front inv.of_shards (let n = c.loop-lock.fronts.ok.0 in
          omega (arith, n, one.shard, inv.few)));
      whole = rw c.push_reserved-in-loop-lock-2.ensures.items (push_whole fronts front inv.whole one.whole);
      few = (let len = c.push_reserved-in-loop-lock-2.ensures.len in omega (arith, len, inv.few));
      shard_count = (let len = c.push_reserved.ensures.len in omega (arith, len, inv.shard_count));
      step_count = (let len = c.push_reserved-in-loop-lock.ensures.len in omega (arith, len, inv.step_count));
      shard_room = (let same = c.push_reserved.ensures.capacity in omega (arith, same, inv.shard_room));
      step_room = (let same = c.push_reserved-in-loop-lock.ensures.capacity in omega (arith, same, inv.step_room));
      front_room = (let same = c.push_reserved-in-loop-lock-2.ensures.capacity in omega (arith, same, inv.front_room));
      left = omega (arith, short, steps.1, inv.left);
      count = omega (arith, short, inv.count);
    }
