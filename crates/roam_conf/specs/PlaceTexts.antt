-- The text of a place of several of a kind. Ours.
use Rattle.std.specs.Prelude.{ℕ, zero, suc, List, [], ◌++◌, codes}
use Rattle.std.specs.Fmt.{decimal}

-- which of several places of a kind it is, behind a colon: of the first nothing
abbrev pub nth_text : ℕ → List ℕ
nth_text zero = []
nth_text (suc n) = codes ":" ++ decimal (suc n)
