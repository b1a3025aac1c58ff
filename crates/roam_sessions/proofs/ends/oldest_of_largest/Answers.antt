use Rattle.std.proofs.Common.{◌+◌, Option, Some, sym, ap, ◌∙◌, subst, arith}
use Rattle.std.specs.Prelude.{nat_eq, option_map}
use Rattle.std.specs.Cmp.Lexicographic.{pointwise}
use Rattle.roam_sessions.specs.Maps.{ends_at}
use Rattle.roam_sessions.specs.Private.Groups.{IsLargest, PlainGroups}
use Rattle.roam_sessions.specs.declared.ends.Ends.{Ends}
use Rattle.roam_sessions.proofs.LargestLemmas.{IsBest, best-first, best-is-largest, best-next, best-skips, lookup-at}
use Rattle.roam_sessions.proofs.ends.oldest_of_largest.Goals as goal
use Rattle.roam_sessions.proofs.ends.oldest_of_largest.Goals.{in-Some, in_default}

pub loop-i-init : goal.loop-i-init
loop-i-init g c = λ beside.
    best-first (record { ends = ends_at c.args.map.now; beside = beside }) c.args.map.now.entries

pub loop-i-preserved : goal.loop-i-preserved
loop-i-preserved g c = λ beside.
    let p : PlainGroups = record { ends = ends_at c.args.map.now; beside = beside } in
    let entries = c.args.map.now.entries in
    let i = c.loop-i.i in
    elim c.match-get_index.branch [
      | in-Some w ↦ subst (λ (o : Option Ends). IsBest p entries (i + 1) o)
          (sym (w.best-is ∙ ap (λ (e : Ends). Some e) w.larger.ensures))
          (best-next p entries i c.loop-i.best _ w.in-Some.ends.now _ (c.loop-i.invariant beside)
          (sym (rw w.in-Some.is at c.get_index.ensures.entry)) (rw w.in-Some.is at c.get_index.ensures.value))
      | in_default w ↦ subst (λ (o : Option Ends). IsBest p entries (i + 1) o) (sym w.best-is)
          (best-skips p entries i c.loop-i.best (c.loop-i.invariant beside)
          (sym (rw w.in_default.is at c.get_index.ensures.entry)))
    ]

pub returns-in-None : goal.returns-in-None
returns-in-None g c = λ beside.
    let p : PlainGroups = record { ends = ends_at c.args.map.now; beside = beside } in
    let ends = c.args.map.now in
    subst (λ (o : Option Ends). IsLargest p (option_map (λ (e : Ends). e.oldest) o)) c.in-None.is
    (best-is-largest p ends.entries
    (λ row e at. lookup-at (λ k. pointwise nat_eq row k.octets.items) ends.entries e at) c.loop-i.i c.loop-i.best
    (c.loop-i.invariant beside) (omega (arith, c.loop-i-test.false, c.len-i-end.ensures.len)))

pub returns-in-Some-best : goal.returns-in-Some-best
returns-in-Some-best g c = λ beside.
    let p : PlainGroups = record { ends = ends_at c.args.map.now; beside = beside } in
    let ends = c.args.map.now in
    subst (λ (o : Option Ends). IsLargest p (option_map (λ (e : Ends). e.oldest) o)) c.in-Some-best.is
    (best-is-largest p ends.entries
    (λ row e at. lookup-at (λ k. pointwise nat_eq row k.octets.items) ends.entries e at) c.loop-i.i c.loop-i.best
    (c.loop-i.invariant beside) (omega (arith, c.loop-i-test.false, c.len-i-end.ensures.len)))
