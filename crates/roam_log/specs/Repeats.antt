-- The refusals within a second, by number. Ours.
use Rattle.std.specs.Prelude.{◌≡◌, ◌≢◌, ℕ, ◌-◌, ◌<◌, List, [], length, slice_index_or}
use Rattle.std.specs.List.{flat_map}
use Rattle.roam_wire.specs.declared.refusal.Refusal.{Refusal}
use Rattle.roam_wire.specs.Refusal.{number_of}
use Rattle.roam_log.specs.declared.tally.RefusalCount.{RefusalCount}

-- all tallies, in the order in which they are told: by number, and then as they began
abbrev pub all_tallies : List (List RefusalCount) → List RefusalCount
all_tallies rows = flat_map (λ row. row) rows

-- the row of a refusal's number
abbrev pub row_of : Refusal → ℕ
row_of refusal = number_of refusal - 1

-- the tallies of a row
abbrev pub row_at : List (List RefusalCount) → ℕ → List RefusalCount
row_at rows i = slice_index_or rows i []

-- the rows before a place are empty
abbrev pub AreEmptyBelow : List (List RefusalCount) → ℕ → Type 0
AreEmptyBelow rows n = (i : ℕ) → i < n → row_at rows i ≡ []

-- the first row that isn't
pub record IsFirstRow (rows : List (List RefusalCount)) (i : ℕ) : Type 0 where
  pub within : i < length rows
  pub before : AreEmptyBelow rows i
  pub some : row_at rows i ≢ []
