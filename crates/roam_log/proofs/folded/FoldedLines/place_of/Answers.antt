use Rattle.std.proofs.Common.{◌≡◌, ℕ, ◌+◌, ◌<◌, List, length, get_or, inl, inr, subst, arith}
use Rattle.std.proofs.lemmas.Bool.{cases_lt}
use Rattle.std.proofs.lemmas.List.{get_or_default}
use Rattle.roam_log.specs.declared.exchange.Exchange.{Exchange}
use Rattle.roam_log.specs.Folded.{IsAlike}
use Rattle.roam_log.proofs.folded.FoldedLines.place_of.Goals as goal

-- where the lines before one are of other requests, and that one is too, so are all up to it
one_more : (lines : List Exchange) (e : Exchange) (i : ℕ) (x : Exchange) → i < length lines
    → ¬ (IsAlike (get_or lines i x) e)
    → ((k : ℕ) (d : Exchange) → k < i → ¬ (IsAlike (get_or lines k d) e))
    → (k : ℕ) (d : Exchange) → k < i + 1 → ¬ (IsAlike (get_or lines k d) e)
one_more lines e i x within other before k d below alike =
    elim (cases_lt k i) [
      | inl lower ↦ before k d lower alike
      | inr top ↦
          let here : k < length lines = omega arith in
          let last : k ≡ i = omega arith in
          other (rw (← last) (subst (λ (y : Exchange). IsAlike y e) (get_or_default lines k d x here) alike))
    ]

-- the lines so far and this one are of other requests
pub loop-i-preserved : goal.loop-i-preserved
loop-i-preserved c =
    one_more c.deref-line-items.result.now c.args.exchange.now c.loop-i.i _ (omega (arith, c.loop-i-test.true))
    (λ alike. absurd (cc (c.if-is_alike.ensures.1 alike))) c.loop-i.invariant
