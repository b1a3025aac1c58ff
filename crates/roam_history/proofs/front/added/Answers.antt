-- The entry is added to all that was seen.
use Rattle.std.proofs.Common.{sym, subst, ◌∙◌, ap, length, arith}
use Rattle.roam_history.specs.Entries.{IsOpen}
use Rattle.roam_history.proofs.Adding.{adds_moves}
use Rattle.roam_history.proofs.front.added.Goals as goal

pub compare_exchange-found-requires : goal.compare_exchange-found-requires
compare_exchange-found-requires g c =
    let h = c.args.head.now.word_is in
    let offer = c.plain-offer.ensures in
    let pen = c.no_pen-pen.ensures in
    let book = ap (λ s. s.book) c.again-seen.ensures ∙ c.requires.book in
    let log = ap (λ s. s.log) c.again-seen.ensures in (
      ap (λ w. w.tracked) h,
      book ∙ sym (ap (λ w. w.book) h),
      pen.0 ∙ (book ∙ sym (ap (λ w. w.book) h)),
      offer.0,
      rw (ap (λ w. w.key) h, pen.1, offer.1, offer.3 ∙ c.requires.state)
          (adds_moves c.again-seen.result.log (g.M.Plain.ask c.args.about.now) c.args.entries
          (omega (arith, ap length log, c.requires.entries)) (subst IsOpen (sym log) c.requires.is_open)),
    )
