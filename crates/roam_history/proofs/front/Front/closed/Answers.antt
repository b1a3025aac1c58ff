-- It has one entry more, which is no step, and lets go of none.
use Rattle.std.proofs.Common.{◌∷◌, [], length, ap, sym, ◌∙◌, arith, length-append}
use Rattle.roam_history.specs.Entries.{closed_entry, steps_in, times_let_go}
use Rattle.roam_history.proofs.EntryLemmas.{closed-steps, closed-times}
use Rattle.roam_history.proofs.front.Front.closed.Goals as goal

pub invariant_of-result : goal.invariant_of-result
invariant_of-result g c =
    let log = c.self.inside.seen.log in
    let is = c.in_ok-seen.ensures.log in (
      omega (arith, c.self.invariant.0, ap length is, length-append log (closed_entry ∷ [])),
      c.self.invariant.1 ∙ sym (ap (λ l. length (steps_in l)) is ∙ ap length (closed-steps log)),
      c.in_ok-seen.ensures.book ∙ c.self.invariant.2,
      c.self.invariant.3 ∙ sym (ap (λ l. times_let_go l) is ∙ closed-times log),
    )
