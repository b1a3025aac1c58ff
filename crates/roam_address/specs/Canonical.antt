-- The one text of an IPv6 address (RFC 5952, section 4), said apart from how it is found.
use Rattle.std.specs.Prelude.{◌≡◌, ℕ, ◌+◌, ◌<◌, ◌≤◌, ◌⊎◌, List, ◌++◌, length, take, drop, slice_index, codes}
use Rattle.std.specs.Net.Text.{groups_text}

-- so many groups from a place on are zero
pub record IsZeroRun (groups : List ℕ) (start count : ℕ) : Type 0 where
  pub within : start + count ≤ length groups
  pub zero : (k : ℕ) → start ≤ k → k < start + count → slice_index groups k ≡ 0

-- the run that `::` stands for: of two groups at least (4.2.2), the longest there is, and of equally long ones the
-- first (4.2.3)
pub record IsShortened (groups : List ℕ) (start count : ℕ) : Type 0 where
  pub run : IsZeroRun groups start count
  pub at_least_two : 2 ≤ count
  pub longest : (other many : ℕ) → IsZeroRun groups other many → many ≤ count
  pub first : (other : ℕ) → IsZeroRun groups other count → start ≤ other

-- ## The text of an IPv6 address
-- The groups in lower-case hexadecimal without leading zeros, joined by colons, with `::` in place of the longest run
-- of two zero groups or more, of equally long ones the first.
-- Source: RFC 5952 sections 4.1 to 4.3
-- Rules out: the second of two equally long runs shortened; a single group shortened; upper case
-- Stands in: `roam_address` `Canonical.antt`: `IsCanonicalText`, `IsShortened`; the law `ipv6_text_is_canonical`
--
-- the groups (std's `groups_text`), with the run that is shortened left out; all of them where no two in a row are zero
abbrev pub IsCanonicalText : List ℕ → List ℕ → Type 0
IsCanonicalText groups text =
    ((start count : ℕ) × IsShortened groups start count
    × (text ≡ groups_text (take start groups) ++ codes "::" ++ groups_text (drop (start + count) groups)))
    ⊎ (((start count : ℕ) → IsZeroRun groups start count → count ≤ 1) × (text ≡ groups_text groups))
