-- The tallies of all rows, in the order in which they are told.
use Rattle.std.proofs.Common.{arith, ◌≡◌, ◌∙◌, ℕ, zero, suc, ◌<◌, List, [], ◌∷◌, ◌++◌, length, drop, slice_set, slice_index_or, ap, refl, sym, Option, Some, None, MatchOption, IfSome, IfNone}
use Rattle.roam_log.specs.declared.tally.RefusalCount.{RefusalCount}
use Rattle.roam_log.specs.Repeats.{AreEmptyBelow, IsFirstRow, all_tallies, row_at}

-- where the rows before one are empty, they begin with its own
pub all_tallies-first : (rows : List (List RefusalCount)) (r : ℕ) → r < length rows → AreEmptyBelow rows r →
    all_tallies rows ≡ row_at rows r ++ all_tallies (drop (suc r) rows)
all_tallies-first [] r within empty = absurd (omega (arith, within))
all_tallies-first (row ∷ rows) zero within empty = refl
all_tallies-first (row ∷ rows) (suc r) within empty =
    ap (λ (l : List RefusalCount). l ++ all_tallies rows) (empty 0 (omega arith))
    ∙ all_tallies-first rows r (omega (arith, within)) (λ i below. empty (suc i) (omega (arith, below)))

-- where all are empty there is none
pub all_tallies-none : (rows : List (List RefusalCount)) → AreEmptyBelow rows (length rows) → all_tallies rows ≡ []
all_tallies-none [] empty = refl
all_tallies-none (row ∷ rows) empty =
    ap (λ (l : List RefusalCount). l ++ all_tallies rows) (empty 0 (omega arith))
    ∙ all_tallies-none rows (λ i below. empty (suc i) (omega (arith, below)))

-- a row that is written
pub all_tallies-set : (rows : List (List RefusalCount)) (r : ℕ) (new : List RefusalCount) → r < length rows →
    AreEmptyBelow rows r →
    all_tallies (slice_set rows r new) ≡ new ++ all_tallies (drop (suc r) rows)
all_tallies-set [] r new within empty = absurd (omega (arith, within))
all_tallies-set (row ∷ rows) zero new within empty = refl
all_tallies-set (row ∷ rows) (suc r) new within empty =
    ap (λ (l : List RefusalCount). l ++ all_tallies (slice_set rows r new)) (empty 0 (omega arith))
    ∙ all_tallies-set rows r new (omega (arith, within)) (λ i below. empty (suc i) (omega (arith, below)))

-- what stands where there is something, whatever stands for nothing
pub row_at-any : (rows : List (List RefusalCount)) (i : ℕ) (other : List RefusalCount) → i < length rows →
    slice_index_or rows i other ≡ row_at rows i
row_at-any [] i other within = absurd (omega (arith, within))
row_at-any (row ∷ rows) zero other within = refl
row_at-any (row ∷ rows) (suc i) other within = row_at-any rows i other (omega (arith, within))

-- the first tally of the first row that isn't empty is the first of all
pub first-of_all : (all rows : List (List RefusalCount)) (i : ℕ) (old new : List RefusalCount)
    (taken : Option RefusalCount) → all ≡ rows →
    IsFirstRow rows i → old ≡ slice_index_or rows i old →
    MatchOption taken ((old ≡ []) × (new ≡ [])) (λ tally. old ≡ tally ∷ new) →
    IfSome taken (λ tally. all_tallies all ≡ tally ∷ all_tallies (slice_set rows i new))
first-of_all all rows i old new None same first is takes = tt
first-of_all all rows i old new (Some tally) same first is takes =
    ap all_tallies same
    ∙ all_tallies-first rows i first.within first.before
    ∙ ap (λ (l : List RefusalCount). l ++ all_tallies (drop (suc i) rows))
    (sym (is ∙ row_at-any rows i old first.within) ∙ takes)
    ∙ ap (λ (l : List RefusalCount). tally ∷ l) (sym (all_tallies-set rows i new first.within first.before))

-- and there is one
pub first-is_there : (rows : List (List RefusalCount)) (i : ℕ) (old new : List RefusalCount)
    (taken : Option RefusalCount) (Q : Type 0) →
    IsFirstRow rows i → old ≡ slice_index_or rows i old →
    MatchOption taken ((old ≡ []) × (new ≡ [])) (λ tally. old ≡ tally ∷ new) → IfNone taken Q
first-is_there rows i old new (Some tally) Q first is takes = tt
first-is_there rows i old new None Q first is takes =
    absurd (first.some (sym (is ∙ row_at-any rows i old first.within) ∙ takes.0))
