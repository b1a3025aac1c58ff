-- The rule of a history's ghost book, and what its steps tell (ours).
use Rattle.std.specs.Prelude.{ℕ, ◌≡◌, ◌==◌, true, List, [], ◌∷◌, ◌++◌, length, MatchBool}
use Rattle.logbook.specs.Pages.{Cell, Step, View, Book, Named}
use Rattle.roam_history.specs.Entries.{ClosesLast, HistoryEntry}

-- the first word is how many entries the history has; a book has two words, of which the second isn't used. Nothing
-- stands after the entry that closes it
pub record IsKept (cells : List Cell) (log : List HistoryEntry) : Type 0 where
  pub words : cells ≡ (length log, true) ∷ (0, true) ∷ []
  pub last : ClosesLast log

-- the first word of a book
abbrev pub head_of : Book → Named
head_of b = record { tracked = true; key = 0; book = b }

-- an entry was added to all that had been seen, which was the whole; or the history was longer
abbrev pub Adds : Step HistoryEntry → View HistoryEntry ℕ → ℕ → View HistoryEntry ℕ → Type 0
Adds s v found w =
    MatchBool (found == s.old) ((w.0 ≡ v.0 ++ s.ask ∷ []) × (length v.0 ≡ s.old)) (Unit {0})
