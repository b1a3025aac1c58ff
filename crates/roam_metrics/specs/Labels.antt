-- The reading of a label's value (Prometheus' text format, version 0.0.4): up to the first quotation mark before which
-- no reverse solidus stands.
use Rattle.std.specs.Prelude.{◌≢◌, ℕ, List, [], ◌∷◌, ◌++◌}
use Rattle.roam_metrics.specs.Lines.{escaped}

-- a text reads as a value, and something is left behind it
pub data Reads : List ℕ → List ℕ → List ℕ → Type 0 where
  closes : (left : List ℕ) → Reads (34 ∷ left) [] left
  plain : (octet : ℕ) (text value left : List ℕ) → octet ≢ 34 → octet ≢ 92 → octet ≢ 10 → Reads text value left →
      Reads (octet ∷ text) (octet ∷ value) left
  mark : (text value left : List ℕ) → Reads text value left → Reads (92 ∷ 34 ∷ text) (34 ∷ value) left
  solidus : (text value left : List ℕ) → Reads text value left → Reads (92 ∷ 92 ∷ text) (92 ∷ value) left
  line_feed : (text value left : List ℕ) → Reads text value left → Reads (92 ∷ 110 ∷ text) (10 ∷ value) left

-- each value reads back as itself, whatever octets it has
abbrev pub ReadsBack : Type 0
ReadsBack = (value left : List ℕ) → Reads (escaped value ++ 34 ∷ left) value left
