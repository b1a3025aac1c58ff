-- The reading of a value: up to the first quotation mark before which no reverse solidus stands. Ours.
use Rattle.std.specs.Prelude.{◌≡◌, ℕ, ◌<◌, true, List, [], ◌∷◌, ◌++◌, ◌/◌, ◌%◌}
use Rattle.std.specs.List.{AllByRecursion}
use Rattle.roam_log.specs.Values.{digit, is_plain, quoted_octets}

-- a text reads as a value, and something is left behind it
pub data Reads : List ℕ → List ℕ → List ℕ → Type 0 where
  closes : (left : List ℕ) → Reads (34 ∷ left) [] left
  plain : (octet : ℕ) (text value left : List ℕ) → is_plain octet ≡ true → Reads text value left →
      Reads (octet ∷ text) (octet ∷ value) left
  digits : (octet : ℕ) (text value left : List ℕ) → octet < 256 → Reads text value left →
      Reads (92 ∷ 120 ∷ digit (octet / 16) ∷ digit (octet % 16) ∷ text) (octet ∷ value) left

-- each value reads back as itself, whatever octets it has
abbrev pub ReadsBack : Type 0
ReadsBack = (value left : List ℕ) → AllByRecursion (λ (o : ℕ). o < 256) value
    → Reads (quoted_octets value ++ 34 ∷ left) value left
