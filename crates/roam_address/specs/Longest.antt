-- The longest prefix that has an address.
use Rattle.std.specs.Prelude.{◌≡◌, ℕ, ◌<◌, ◌≤◌, List, slice_get, Some, Option, MatchOption}
use Rattle.roam_address.specs.declared.address.Address.{Address}
use Rattle.roam_address.specs.declared.prefix.Prefix.{Prefix}
use Rattle.roam_address.specs.Prefixes.{length_of, leading_of, IsIn}

-- ## Prefixes
-- An address, and how many of its leftmost bits count; the others are zero, or the text states none. A prefix has the
-- addresses of its kind that have these bits. An address alone is the prefix of all its bits. What an address finds
-- among prefixes is the longest that has it.
-- Source: RFC 4632 section 3.1, RFC 4291 section 2.3, ours
-- Rules out: a shorter prefix that beats a longer; an address of the other kind; bits behind those that count
-- Stands in: `roam_address` `Longest.antt`: `IsLongestMatch`, `HasTwice`; `Prefixes.antt`: `IsIn`, `IsPrefixText`;
-- `Prefix::has`, `PrefixIndex::longest`, the law `prefix_is_read_back`
--
-- at the place stands a prefix that has the address, and none that has it is longer
pub record IsLongest (prefixes : List Prefix) (address : Address) (place : ℕ) : Type 0 where
  pub prefix : Prefix
  pub there : slice_get prefixes place ≡ Some prefix
  pub has : IsIn prefix address
  pub longest : (elsewhere : ℕ) (other : Prefix) → slice_get prefixes elsewhere ≡ Some other → IsIn other address →
      length_of other ≤ length_of prefix

-- no prefix of these has the address
abbrev pub NoneHas : List Prefix → Address → Type 0
NoneHas prefixes address =
    (place : ℕ) (prefix : Prefix) → slice_get prefixes place ≡ Some prefix → ¬ (IsIn prefix address)

-- the place of the longest prefix that has the address, where one has it
abbrev pub IsLongestMatch : List Prefix → Address → Option ℕ → Type 0
IsLongestMatch prefixes address answer = MatchOption answer (NoneHas prefixes address) (IsLongest prefixes address)

-- at two places stand prefixes with the same bits
pub record HasTwice (prefixes : List Prefix) : Type 0 where
  pub first : ℕ
  pub second : ℕ
  pub apart : first < second
  pub one : Prefix
  pub other : Prefix
  pub one_there : slice_get prefixes first ≡ Some one
  pub other_there : slice_get prefixes second ≡ Some other
  pub same : leading_of one ≡ leading_of other
