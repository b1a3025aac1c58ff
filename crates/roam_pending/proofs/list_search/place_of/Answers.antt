use Rattle.std.proofs.Common.{◌≢◌, ℕ, ◌<◌, List, length, get_or, ap, ◌∙◌, arith}
use Rattle.std.proofs.lemmas.List.{get_or_default}
use Rattle.roam_pending.specs.declared.entry.Entry.{Entry}
use Rattle.roam_pending.proofs.PlaceLemmas.{count_below-length, missing}
use Rattle.roam_pending.proofs.list_search.place_of.Goals as goal
use Rattle.roam_pending.proofs.list_search.place_of.Goals.{else-place-entries-via-then-place-entries+else-entries-place, else-place-entries-via-else-place-entries}

-- whatever is read past the end, the entry at a place within is one
other_default : {A : Type 0} (t : ℕ) (es : List (Entry A)) (i : ℕ) (x d : Entry A) → i < length es →
    (get_or es i x).ticket ≢ t → (get_or es i d).ticket ≢ t
other_default {A} t es i x d lt h at = h (ap (λ (e : Entry A). e.ticket) (get_or_default es i x d lt) ∙ at)

-- the entry at the ticket's place has another ticket, or no entry stands there
pub returns-else-place-entries-clause-none : goal.returns-else-place-entries-clause-none
returns-else-place-entries-clause-none g c =
    let es = c.args.entries.now in
    let place = c.count_below-place.result in
    let counted = c.count_below-place.ensures ∙ count_below-length c.args.ticket es in
    elim c.else-place-entries.branch [
      | else-place-entries-via-then-place-entries+else-entries-place w ↦
          missing c.args.ticket es place c.requires counted
          (λ lt d at. other_default c.args.ticket es place w.index-entries-place.result d lt w.if-entries-place.false
          at)
      | else-place-entries-via-else-place-entries w ↦
          missing c.args.ticket es place c.requires counted (λ lt d. absurd (omega arith))
    ]
