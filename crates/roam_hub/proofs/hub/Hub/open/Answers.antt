-- Each shard gets the history at its place, of which nothing is seen yet.
use Rattle.std.proofs.Common.{◌≡◌, ◌+◌, ◌++◌, ◌∷◌, [], ℕ, suc, List, length, Option, Some, slice_get, refl, ap, sym, subst, ◌∙◌, arith}
use Rattle.std.specs.Vec.Iter.{into_iter_items}
use Rattle.std.proofs.lemmas.List.{map-append, replicate-append-replicate}
use Rattle.roam_history.specs.Books.{book_of}
use Rattle.roam_history.specs.Entries.{HistoryEntry}
use Rattle.roam_history.specs.Fronts.{FrontView, entries_of}
use Rattle.roam_history.specs.declared.blank.Blank.{Blank}
use Rattle.roam_hub.proofs.HubLemmas.{no_shards, push_shards}
use Rattle.roam_hub.proofs.hub.Hub.open.Goals as goal

pub loop-blank-init : goal.loop-blank-init
loop-blank-init g c =
    let iter = c.into_iter-blank-iterator.ensures.into_iter_gives in
    let blanks = c.args.blanks.blanks in
    record {
      books = λ k b at. (
          let here : slice_get blanks.items k ≡ Some b = subst (λ (l : List Blank). slice_get l k ≡ Some b) iter.0 at in
          let named = ap (λ f. f k) c.requires.books in
          let e : k ≡ 0 + k = omega arith in
          subst (λ (n : ℕ). b.seen.book ≡ g.N.Opened.books n) e (sym (ap (λ (o : Option Blank). book_of o) here)
          ∙ sym named));
      locks = c.in_ok-locks.ensures.len;
      fronts = c.in_ok-fronts.ensures.len;
      unseen = rw c.in_ok-fronts.ensures.items refl;
      of_shards = rw c.in_ok-fronts.ensures.items no_shards;
      left = iter.1 ∙ blanks.ok.0 ∙ ap length (sym iter.0);
      count = (let n = ap length iter.0 in omega (arith, n, c.requires.blanks));
    }

pub kept_at-requires-clause-book : goal.kept_at-requires-clause-book
kept_at-requires-clause-book g c =
    let b = c.in-Some.blank in
    let at : slice_get (into_iter_items c.loop-blank.blank-iterator) 0 ≡ Some b =
    ap (λ (l : List Blank). slice_get l 0) c.in-Some.ensures.steps.0 in
    let here : c.loop-blank.shard + 0 ≡ c.loop-blank.shard = omega arith in
    subst (λ (n : ℕ). b.seen.book ≡ g.N.Opened.books n) here (c.loop-blank.invariant.books 0 b at)

pub loop-blank-preserved : goal.loop-blank-preserved
loop-blank-preserved g c =
    let inv = c.loop-blank.invariant in
    let steps = c.in-Some.ensures.steps in
    let short = ap length steps.0 in
    let fronts = c.loop-blank.fronts.items in
    let front : FrontView = c.in_ok-kept.front in
    let is = c.in_ok-kept.ensures.seen in
    let more = c.in_ok-push-2.ensures.items in
    let entries : entries_of (fronts ++ front ∷ []) ≡ entries_of fronts ++ [] ∷ [] =
    map-append (λ (f : FrontView). f.entries) fronts (front ∷ [])
    ∙ ap (λ (f : FrontView). entries_of fronts ++ f.entries ∷ []) is in
    record {
      books = λ k b at. (
          let more = inv.books (suc k) b (subst (λ (l : List Blank). slice_get l (suc k) ≡ Some b) (sym steps.0) at) in
          let same : c.loop-blank.shard + suc k ≡ c.loop-blank.shard + 1 + k = omega arith in
          subst (λ (n : ℕ). b.seen.book ≡ g.N.Opened.books n) same more);
      locks = (let len = c.in_ok-push.ensures.len in omega (arith, len, inv.locks));
      fronts = (let len = c.in_ok-push-2.ensures.len in omega (arith, len, inv.fronts));
      unseen = rw more (entries ∙ (ap (λ (l : List (List HistoryEntry)). l ++ [] ∷ []) inv.unseen
          ∙ replicate-append-replicate c.loop-blank.shard 1 []));
      of_shards = rw more (push_shards fronts front inv.of_shards (let n = c.loop-blank.fronts.ok.0 in let s =
          ap (λ (f : FrontView). f.shard) is in omega (arith, n, s, inv.fronts)));
      left = omega (arith, short, steps.1, inv.left);
      count = omega (arith, short, inv.count);
    }
