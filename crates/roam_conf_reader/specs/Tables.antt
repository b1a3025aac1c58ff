-- Lists of keys in the code, as lists of texts. Ours.
use Rattle.std.specs.Prelude.{ℕ, List, map}
use Rattle.std.specs.Borrow.{Bor}

abbrev pub shown_keys : List (Bor (List ℕ)) → List (List ℕ)
shown_keys keys = map (λ key. key.now) keys
