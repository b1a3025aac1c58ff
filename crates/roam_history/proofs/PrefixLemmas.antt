-- Steps of histories of which one begins the other.
use Rattle.std.proofs.Common.{◌≡◌, ℕ, ◌<◌, List, [], ◌∷◌, ◌++◌, length, take, Some, slice_get, refl, sym, ap, ◌∙◌}
use Rattle.std.proofs.lemmas.Option.{slice_get_within}
use mathlib.Core.List.{IsPrefix}
use Rattle.roam_shard.specs.Steps.{PlainStep}
use Rattle.roam_history.specs.Entries.{HistoryEntry, steps_in}
use Rattle.roam_history.proofs.EntryLemmas.{steps-append}
use Rattle.roam_history.proofs.Prefixes.{prefix_get, prefix_get_back}
use Rattle.roam_history.specs.Audit.{Begins}

-- the beginning of a list by its length
take_append : {X : Type 0} (xs ys : List X) → take (length xs) (xs ++ ys) ≡ xs
take_append [] ys = refl
take_append (x ∷ xs) ys = ap (λ l. x ∷ l) (take_append xs ys)

pub prefix_begins : (es fs : List HistoryEntry) → IsPrefix es fs → Begins es fs
prefix_begins es fs pre = ap (λ (l : List HistoryEntry). take (length es) l) (sym pre.1) ∙ take_append es pre.0

-- so its steps begin the other's
pub steps_begin : (es fs : List HistoryEntry) → IsPrefix es fs → IsPrefix (steps_in es) (steps_in fs)
steps_begin es fs pre = (steps_in pre.0, sym (steps-append es pre.0) ∙ ap steps_in pre.1)

-- a step that stands in the one stands in the other, where its number is one of the other's
pub stands_longer : (es fs : List HistoryEntry) (n : ℕ) (s : PlainStep) → IsPrefix es fs →
    slice_get (steps_in es) n ≡ Some s → slice_get (steps_in fs) n ≡ Some s
stands_longer es fs n s pre at = prefix_get (steps_in es) (steps_in fs) n s (steps_begin es fs pre) at

pub stands_shorter : (es fs : List HistoryEntry) (n : ℕ) (s : PlainStep) → IsPrefix fs es → n < length (steps_in fs)
    → slice_get (steps_in es) n ≡ Some s → slice_get (steps_in fs) n ≡ Some s
stands_shorter es fs n s pre lt at = prefix_get_back (steps_in fs) (steps_in es) n s (steps_begin fs es pre) lt at

pub is_below : (es : List HistoryEntry) (n : ℕ) (s : PlainStep) → slice_get (steps_in es) n ≡ Some s →
    n < length (steps_in es)
is_below es n s at = slice_get_within (steps_in es) n s at
