-- Two fronts of one shard are beginnings of one list: the shorter begins the longer.
use Rattle.std.proofs.Common.{◌≤◌, length, ap, subst, refl, arith, List}
use mathlib.Core.List.{IsPrefix}
use Rattle.roam_history.specs.Entries.{HistoryEntry}
use Rattle.roam_history.proofs.Prefixes.{prefix_shorter}
use Rattle.roam_history.proofs.front.Front.begins.Goals as goal

pub returns-then-self-whole-clause-begins : goal.returns-then-self-whole-clause-begins
returns-then-self-whole-clause-begins g c =
    let mine = c.self.inside.seen.log in
    let other = c.whole.inside.seen.log in
    let both = c.learn.new.self.log in
    let this : IsPrefix mine both =
    subst (λ (l : List HistoryEntry). IsPrefix l both) (ap (λ s. s.log) c.again-both.ensures) c.learn.ensures.2 in
    let less : length mine ≤ length other =
    omega (arith, c.self.invariant.0, c.whole.invariant.0, c.if-self-whole.true) in
    let pre = prefix_shorter mine other both this c.learn.ensures.3 less in (
      λ yes. rw (← c.self.view_is, ← c.whole.view_is) pre,
      λ yes. refl,
    )

pub returns-clause-other : goal.returns-clause-other
returns-clause-other g c = λ no. (
    let mine = c.self.inside.seen.log in
    let other = c.whole.inside.seen.log in
    let both = c.learn.new.self.log in
    let this : IsPrefix mine both =
    subst (λ (l : List HistoryEntry). IsPrefix l both) (ap (λ s. s.log) c.again-both.ensures) c.learn.ensures.2 in
    let less : length other ≤ length mine =
    omega (arith, c.self.invariant.0, c.whole.invariant.0, c.if-self-whole.false) in
    rw (← c.self.view_is, ← c.whole.view_is) (prefix_shorter other mine both c.learn.ensures.3 this less))
