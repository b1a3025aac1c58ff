-- The reading of a text. Ours.
use Rattle.std.specs.Prelude.{ℕ, List, Option, MatchOption}

-- what the text states is answered, and nothing just where it states nothing
abbrev pub Reads : {A : Type 0} → (List ℕ → A → Type 0) → List ℕ → Option A → Type 0
Reads {A} States text answer = MatchOption answer ((a : A) → ¬ (States text a)) (States text)
