-- Something was printed, whatever it is. Ours.
use Rattle.std.specs.Prelude.{ℕ, List, Option}
use Rattle.std.specs.Io.KnownBytes.{Appends}

-- something was printed
abbrev pub IsPrinted : Option (List ℕ) → Option (List ℕ) → Type 0
IsPrinted old new = (text : List ℕ) × Appends old new text
