-- Octets that are printable in ASCII (RFC 20): from 32 to 126.
use Rattle.std.specs.Prelude.{ℕ, ◌<◌, ◌≤◌, List}
use Rattle.std.specs.List.{AllByRecursion}
use Rattle.roam_log.specs.Values.{quoted_octets}

pub record IsPrintable (octet : ℕ) : Type 0 where
  pub least : 32 ≤ octet
  pub most : octet ≤ 126

abbrev pub ArePrintable : List ℕ → Type 0
ArePrintable octets = AllByRecursion IsPrintable octets

-- what is written of a value is so, whatever octets it has
abbrev pub ValuesArePrintable : Type 0
ValuesArePrintable = (value : List ℕ) → AllByRecursion (λ (o : ℕ). o < 256) value → ArePrintable (quoted_octets value)
