-- Rows whose cells fit into a column.
use Rattle.std.proofs.Common.{◌≡◌, ◌+◌, ◌≤◌, ◌<◌, ℕ, List, max, All, take, length, get_or, subst}
use Rattle.std.proofs.Math.Nat.{le_trans, le-max_left, le-max_right}
use Rattle.std.proofs.lemmas.List.Elements.{All-more}
use Rattle.roam_metrics.specs.Tables.{Fits, cell_width}
use Rattle.roam_metrics.specs.declared.tables.Row.{Row}

-- those so far, and one more, fit into the larger of both widths
pub fits_more : (at width found i : ℕ) (rows : List Row) (d : Row) → i < length rows →
    All (Fits at width) (take i rows) → found ≡ cell_width at (get_or rows i d) →
    All (Fits at (max found width)) (take (i + 1) rows)
fits_more at width found i rows d lt fit is =
    All-more (Fits at (max found width)) rows i d lt
    (λ k e below. le_trans (fit k e below) (le-max_right found width))
    (subst (λ w. w ≤ max found width) is (le-max_left found width))
