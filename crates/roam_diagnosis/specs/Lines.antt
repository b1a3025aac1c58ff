-- The lines of a diagnosis, and what is printed of them. Ours.
use Rattle.std.specs.Prelude.{ℕ, ◌≤◌, List, [], ◌∷◌, ◌++◌, IsTrue, length}
use Rattle.std.specs.List.{list_all}
use Rattle.roam_diagnosis.specs.Line.{is_line}

-- ten lines at most
pub record IsDiagnosis (lines : List (List ℕ)) : Type 0 where
  pub few : length lines ≤ 10
  pub each : IsTrue (list_all is_line lines)

-- each line with a line feed
abbrev pub printed : List (List ℕ) → List ℕ
printed [] = []
printed (line ∷ rest) = line ++ 10 ∷ [] ++ printed rest
