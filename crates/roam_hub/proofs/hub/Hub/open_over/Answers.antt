-- Each shard gets the history at its place, of which nothing is seen yet, and goes on where it stands.
use Rattle.std.proofs.Common.{◌≡◌, ◌+◌, ◌++◌, ◌∷◌, [], ℕ, suc, List, length, Option, Some, slice_get, refl, ap, sym, subst, ◌∙◌, arith}
use Rattle.std.specs.Vec.Iter.{into_iter_items}
use Rattle.std.proofs.lemmas.List.{map-append, replicate-append-replicate}
use Rattle.roam_conf.specs.Shown.{shown}
use Rattle.roam_history.specs.Books.{book_of}
use Rattle.roam_history.specs.Entries.{HistoryEntry}
use Rattle.roam_history.specs.Fronts.{FrontView, entries_of}
use Rattle.roam_history.specs.HubOpening.{HubOpening}
use Rattle.roam_history.specs.declared.blank.Blank.{Blank}
use Rattle.roam_hub.specs.Pausing.{states_of_one}
use Rattle.roam_hub.proofs.HubLemmas.{no_shards, push_shards}
use Rattle.roam_hub.proofs.hub.Hub.open_over.Goals as goal

pub loop-blank-init : goal.loop-blank-init
loop-blank-init g c =
    let iter = c.into_iter-blank-iterator.ensures.into_iter_gives in
    let its = c.into_iter-left.ensures in
    let blanks = c.args.blanks.blanks in
    let shards = c.args.shards in
    record {
      books = λ k b at. (
          let here : slice_get blanks.items k ≡ Some b = subst (λ (l : List Blank). slice_get l k ≡ Some b) iter.0 at in
          let named = ap (λ f. f k) c.requires.books in
          let e : k ≡ 0 + k = omega arith in
          subst (λ (n : ℕ). b.seen.book ≡ g.N.Opened.books n) e (sym (ap (λ (o : Option Blank). book_of o) here)
          ∙ sym named));
      paused = λ k. (let e : k ≡ 0 + k = omega arith in ap (λ (l : List _). slice_get l k) its.rest
          ∙ ap (slice_get shards.items) e);
      more = its.len ∙ shards.ok.0 ∙ ap length (sym its.rest);
      paused_count = (let n = ap length its.rest in omega (arith, n, c.requires.paused.count));
      locks = c.in-Ok.ensures.len;
      fronts = c.in-Ok-with_capacity.ensures.len;
      lock_room = (let le = c.in-Ok.ensures.capacity in omega (arith, le, c.from-count.ensures));
      front_room = (let le = c.in-Ok-with_capacity.ensures.capacity in omega (arith, le, c.from-count.ensures));
      unseen = rw c.in-Ok-with_capacity.ensures.items refl;
      of_shards = rw c.in-Ok-with_capacity.ensures.items no_shards;
      left = iter.1 ∙ blanks.ok.0 ∙ ap length (sym iter.0);
      count = (let n = ap length iter.0 in omega (arith, n, c.requires.blanks));
    }

pub kept_over-kept-requires-clause-paused : goal.kept_over-kept-requires-clause-paused
kept_over-kept-requires-clause-paused g c =
    let k = c.loop-blank.shard in
    let p = c.in-Some-next.paused in
    let shards = c.args.shards.items in
    let first : slice_get (into_iter_items c.loop-blank.left) 0 ≡ Some p =
    ap (λ (l : List _). slice_get l 0) c.in-Some-next.ensures.items in
    let e : k + 0 ≡ k = omega arith in
    let at : slice_get shards k ≡ Some p = ap (slice_get shards) (sym e) ∙ sym (c.loop-blank.invariant.paused 0)
    ∙ first in
    c.requires.paused.each k p at

pub kept_over-kept-requires-clause-states : goal.kept_over-kept-requires-clause-states
kept_over-kept-requires-clause-states g c =
    let k = c.loop-blank.shard in
    let p = c.in-Some-next.paused in
    let shards = c.args.shards.items in
    let first : slice_get (into_iter_items c.loop-blank.left) 0 ≡ Some p =
    ap (λ (l : List _). slice_get l 0) c.in-Some-next.ensures.items in
    let e : k + 0 ≡ k = omega arith in
    let at : slice_get shards k ≡ Some p = ap (slice_get shards) (sym e) ∙ sym (c.loop-blank.invariant.paused 0)
    ∙ first in
    ap (λ (o : HubOpening). o.states k) c.requires.opening ∙ ap (states_of_one (shown c.args.config.now)) at

pub kept_over-kept-requires-clause-book : goal.kept_over-kept-requires-clause-book
kept_over-kept-requires-clause-book g c =
    let b = c.in-Some.blank in
    let at : slice_get (into_iter_items c.loop-blank.blank-iterator) 0 ≡ Some b =
    ap (λ (l : List Blank). slice_get l 0) c.in-Some.ensures.steps.0 in
    let here : c.loop-blank.shard + 0 ≡ c.loop-blank.shard = omega arith in
    subst (λ (n : ℕ). b.seen.book ≡ g.N.Opened.books n) here (c.loop-blank.invariant.books 0 b at)

pub loop-blank-preserved : goal.loop-blank-preserved
loop-blank-preserved g c =
    let inv = c.loop-blank.invariant in
    let k = c.loop-blank.shard in
    let steps = c.in-Some.ensures.steps in
    let short = ap length steps.0 in
    let its = c.in-Some-next.ensures in
    let its_short = ap length its.items in
    let fronts = c.loop-blank.fronts.items in
    let front : FrontView = c.kept_over-kept.result.1 in
    let is = c.kept_over-kept.ensures.seen in
    let more = c.push_reserved-in-loop-blank.ensures.items in
    let entries : entries_of (fronts ++ front ∷ []) ≡ entries_of fronts ++ [] ∷ [] =
    map-append (λ (f : FrontView). f.entries) fronts (front ∷ [])
    ∙ ap (λ (f : FrontView). entries_of fronts ++ f.entries ∷ []) is in
    record {
      books = λ j b at. (
          let later = inv.books (suc j) b (subst (λ (l : List Blank). slice_get l (suc j) ≡ Some b) (sym steps.0) at) in
          let same : k + suc j ≡ k + 1 + j = omega arith in
          subst (λ (n : ℕ). b.seen.book ≡ g.N.Opened.books n) same later);
      paused = λ j. (
          let same : k + suc j ≡ k + 1 + j = omega arith in
          ap (λ (l : List _). slice_get l (suc j)) (sym its.items) ∙ inv.paused (suc j)
          ∙ ap (slice_get c.args.shards.items) same);
      more = (let len = its.len in omega (arith, its_short, len, inv.more));
      paused_count = omega (arith, its_short, inv.paused_count);
      locks = (let len = c.push_reserved.ensures.len in omega (arith, len, inv.locks));
      fronts = (let len = c.push_reserved-in-loop-blank.ensures.len in omega (arith, len, inv.fronts));
      lock_room = (let same = c.push_reserved.ensures.capacity in omega (arith, same, inv.lock_room));
      front_room = (let same = c.push_reserved-in-loop-blank.ensures.capacity in omega (arith, same, inv.front_room));
      unseen = rw more (entries ∙ (ap (λ (l : List (List HistoryEntry)). l ++ [] ∷ []) inv.unseen
          ∙ replicate-append-replicate k 1 []));
      of_shards = rw more (push_shards fronts front inv.of_shards (let n = c.loop-blank.fronts.ok.0 in let s =
          ap (λ (f : FrontView). f.shard) is in omega (arith, n, s, inv.fronts)));
      left = omega (arith, short, steps.1, inv.left);
      count = omega (arith, short, inv.count);
    }

pub invariant_of-hub : goal.invariant_of-hub
invariant_of-hub g c =
    let inv = c.loop-blank.invariant in
    let none : length (into_iter_items c.loop-blank.blank-iterator) ≡ 0 = sym inv.left ∙ c.in-None.ensures.steps.0 in
    let config = ap (λ (o : HubOpening). o.config) c.requires.opening in
    let shards = ap (λ (o : HubOpening). o.config.shards) c.requires.opening in
    record { config_is = sym config; count = omega (arith, none, inv.count, inv.locks, shards) }
