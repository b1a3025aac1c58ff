use Rattle.std.proofs.Common.{◌≡◌, ◌+◌, ◌<◌, ◌++◌, ◌∷◌, [], List, length, take, slice_get, Some, IsTrue, arith, sym, subst, ap, ◌∙◌, refl}
use Rattle.std.proofs.lemmas.List.{map_more, take-map}
use Rattle.std.proofs.lemmas.Option.{slice_get-map, slice_get_read}
use Rattle.roam_history.specs.Shown.{recorded, shown_receipt, shown_receipts}
use Rattle.roam_history.specs.Audit.{AreRight}
use Rattle.roam_history.specs.Findings.{IsRightAfter}
use Rattle.roam_history.proofs.ReceiptLemmas.{AreRight-push, IsRightAfter-last}
use Rattle.roam_history.proofs.report.Report.check_receipts.Goals as goal

-- with one receipt more that is right after them, all are right
pub loop-place-preserved : goal.loop-place-preserved
loop-place-preserved g c =
    let steps = recorded c.args.self.now in
    let receipts = c.args.receipts.now in
    let place = c.loop-place.place in
    let before = take place receipts in
    let receipt = c.index-receipts-place.result in
    let seen = shown_receipt receipt in
    let within : place < length receipts = omega arith in
    let yes : IsTrue c.is_right.result = cc in
    let after : IsRightAfter steps (shown_receipts before) seen =
    subst (λ (b : List _). IsRightAfter steps (shown_receipts b) seen)
    c.split_at.ensures.front (c.is_right.ensures.0 yes) in
    let more : shown_receipts (take (place + 1) receipts) ≡ shown_receipts before ++ seen ∷ [] =
    map_more shown_receipt receipts place receipt within
    ∙ ap (λ r. shown_receipts before ++ shown_receipt r ∷ []) (sym c.index-receipts-place.is) in
    subst (AreRight steps) (sym more)
    (AreRight-push steps (shown_receipts before) seen c.loop-place.invariant after)

-- with one that isn't, they aren't, and it is the first
pub returns-then-not-is_right : goal.returns-then-not-is_right
returns-then-not-is_right g c =
    let steps = recorded c.args.self.now in
    let receipts = c.args.receipts.now in
    let place = c.loop-place.place in
    let before = take place receipts in
    let receipt = c.index-receipts-place.result in
    let seen = shown_receipt receipt in
    let within : place < length receipts = omega arith in
    let there : slice_get receipts place ≡ Some receipt =
    slice_get_read receipts (length receipts) place receipt refl within
    c.index-receipts-place.is in
    let more : take (place + 1) (shown_receipts receipts) ≡ shown_receipts before ++ seen ∷ [] =
    take-map shown_receipt (place + 1) receipts
    ∙ map_more shown_receipt receipts place receipt within
    ∙ ap (λ r. shown_receipts before ++ shown_receipt r ∷ []) (sym c.index-receipts-place.is) in
    record {
      receipt = seen;
      first = record {
        place = place;
        there = rw (slice_get-map shown_receipt receipts place, there) refl;
        before =
            subst (AreRight steps) (sym (take-map shown_receipt place receipts))
            c.loop-place.invariant;
        against = λ right.
            let after =
            IsRightAfter-last steps (shown_receipts before) seen
            (subst (AreRight steps) more right) in
            let front =
            subst (λ (b : List _). IsRightAfter steps (shown_receipts b) seen)
            (sym c.split_at.ensures.front) after in
            let yes : IsTrue c.is_right.result = c.is_right.ensures.1 front in
            absurd (cc);
      };
      its_shard = refl;
      its_number = refl;
    }
