-- What is added to a page keeps it one.
use Rattle.std.proofs.Common.{◌≡◌, ℕ, List, ◌++◌, Result, Ok, Err, OnOk, subst, sym}
use Rattle.roam_metrics.specs.Pages.{AreLines, MoreLines}

pub more-lines : {E : Type 0} (result : Result (Unit {0}) E) (old new text : List ℕ) → OnOk result (new ≡ old ++ text) →
    (AreLines old → AreLines (old ++ text)) → OnOk result (MoreLines old new)
more-lines (Ok done) old new text is more = λ lines. subst AreLines (sym is) (more lines)
more-lines (Err fault) old new text is more = tt

-- more lines, and then more
pub more-lines_after : {E : Type 0} (result : Result (Unit {0}) E) (old between new : List ℕ) → MoreLines old between →
    OnOk result (MoreLines between new) → OnOk result (MoreLines old new)
more-lines_after (Ok done) old between new first next = λ lines. next (first lines)
more-lines_after (Err fault) old between new first next = tt
