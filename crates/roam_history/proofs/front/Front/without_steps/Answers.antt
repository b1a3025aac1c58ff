-- It has one entry more, which is no step, and one letting go.
use Rattle.std.proofs.Common.{◌∷◌, [], length, ap, sym, ◌∙◌, arith, length-append}
use Rattle.roam_history.specs.Entries.{let_go_entry, steps_in, times_let_go}
use Rattle.roam_history.proofs.EntryLemmas.{once_more, same-steps, times-few}
use Rattle.roam_history.proofs.front.Front.without_steps.Goals as goal

pub overflow_add-result-2 : goal.overflow_add-result-2
overflow_add-result-2 g c =
    let log = c.self.inside.seen.log in
    let room = c.requires.room in
    let same = ap (λ f. length f.entries) c.self.view_is in
    omega (arith, c.self.invariant.3, times-few log, same, room)

pub invariant_of-result : goal.invariant_of-result
invariant_of-result g c =
    let log = c.self.inside.seen.log in
    let is = c.in_ok-seen.ensures.log in (
      omega (arith, c.self.invariant.0, ap length is, length-append log (let_go_entry ∷ [])),
      c.self.invariant.1 ∙ sym (ap (λ l. length (steps_in l)) is ∙ ap length (same-steps log)),
      c.in_ok-seen.ensures.book ∙ c.self.invariant.2,
      (let more = ap (λ l. times_let_go l) is in omega (arith, c.self.invariant.3, more, once_more log)),
    )
