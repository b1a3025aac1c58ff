-- The exchange that adds an entry keeps the rule.
use Rattle.std.proofs.Common.{◌≡◌, ℕ, ◌+◌, ◌<◌, ◌≤◌, ◌==◌, Bool, true, false, List, [], ◌∷◌, ◌++◌, length, refl, ap, sym, subst, ◌∙◌, arith, inl, length-append, None}
use Rattle.std.proofs.lemmas.List.{append-nil}
use Rattle.std.proofs.lemmas.Bool.Decides.{nat_tests}
use mathlib.Core.List.{IsPrefix}
use prog.Atomic.{either}
use Rattle.logbook.specs.Pages.{Cell, cell, keeps, no_nib, step, Moves, Goes}
use Rattle.roam_history.specs.Entries.{ClosesLast, HistoryEntry, IsOpen}
use Rattle.roam_history.specs.Rules.{IsKept, Adds}
use Rattle.roam_history.proofs.EntryLemmas.{closes_one}
use Rattle.roam_history.proofs.Prefixes.{prefix_whole}

abbrev pub shown : List HistoryEntry → List HistoryEntry
shown log = []

abbrev pub moved : List HistoryEntry → List HistoryEntry → ℕ → Type 0
moved xs ys n = Unit {0}

adds_goes : (log v : List HistoryEntry) (e : HistoryEntry) (old : ℕ) → old ≤ length v → IsOpen v → ClosesLast log →
    IsPrefix v log
    → (b : Bool) → (length log == old) ≡ b
    → Goes IsKept shown moved 0 (
      v,
      (no_nib, None),
    ) (λ n. either (n == old) (old + 1) n) (Adds (step 0 old (old + 1) e) (v, (no_nib, None)))
    ((length log, true) ∷ (0, true) ∷ []) log
adds_goes log v e old len still last pre true is =
    let here : length log ≡ old = grind (arith, nat_tests) in
    let same : v ≡ log = prefix_whole v log pre (omega (arith, here, len)) in
    let n : either (length log == old) (old + 1) (length log) ≡ length (log ++ e ∷ []) =
    rw is (omega (arith, length-append log (e ∷ []))) in
    let whole : length v ≡ old = ap length same ∙ here in (
      keeps,
      e ∷ [],
      None,
      tt,
      record {
        words = ap (λ (k : ℕ). (k, true) ∷ (0, true) ∷ []) n;
        last = closes_one log e (subst IsOpen same still);
      },
      inl (refl, refl),
      rw is (ap (λ w. w ++ e ∷ []) (sym same), whole),
    )
adds_goes log v e old len still last pre false is =
    let all : log ++ [] ≡ log = append-nil log in
    let n : either (length log == old) (old + 1) (length log) ≡ length (log ++ []) = rw is (sym (ap length all)) in (
      keeps,
      [],
      None,
      tt,
      record { words = ap (λ (k : ℕ). (k, true) ∷ (0, true) ∷ []) n; last = subst ClosesLast (sym all) last },
      inl (refl, refl),
      rw is tt,
    )

-- whatever the book is, the exchange adds the entry to all that was seen, which isn't closed, or finds that the history
-- is longer
pub adds_moves : (v : List HistoryEntry) (e : HistoryEntry) (old : ℕ) → old ≤ length v → IsOpen v
    → Moves IsKept shown moved 0 (
      v,
      (no_nib, None),
    ) (λ n. either (n == old) (old + 1) n) (Adds (step 0 old (old + 1) e) (v, (no_nib, None)))
adds_moves v e old len still cs log kept pre away =
    let P : List Cell → Type 0 = λ c. (0 < length c) × ((cell c 0).1 ≡ true)
    × Goes IsKept shown moved 0 (
      v,
      (no_nib, None),
    ) (λ n. either (n == old) (old + 1) n) (Adds (step 0 old (old + 1) e) (v, (no_nib, None))) c
    log in
    subst P (sym kept.words) (omega arith, refl, adds_goes log v e old len still kept.last pre (length log == old) refl)
