-- The keys under which an index keeps prefixes. Ours.
use Rattle.std.specs.Prelude.{◌≡◌, ℕ, ◌+◌, Bool, true, false, List, length, filter, Some, slice_get, slice_index_or, slice_range, if◌then◌else◌}
use Rattle.roam_address.specs.declared.leading.Leading.{Leading}

-- where it is marked that a key of this kind and length is there: IPv4's lengths from 0 on, IPv6's from 33 on
abbrev pub slot : Bool → ℕ → ℕ
slot is_ipv6 length = if is_ipv6 then 33 + length else length

abbrev pub is_marked : List Bool → Bool → ℕ → Bool
is_marked marks is_ipv6 length = slice_index_or marks (slot is_ipv6 length) false

-- each key's kind and length is marked
abbrev pub AreMarked : List Bool → List Leading → Type 0
AreMarked marks keys =
    (place : ℕ) (key : Leading) → slice_get keys place ≡ Some key → is_marked marks key.is_ipv6 key.length ≡ true

-- the marks of a kind: those of as many lengths as an address of it has bits, and one more
abbrev pub marks_of : List Bool → Bool → List Bool
marks_of marks is_ipv6 = if is_ipv6 then slice_range marks 33 162 else slice_range marks 0 33

-- how many of them are set
abbrev pub count_marked : List Bool → ℕ
count_marked marks = length (filter (λ mark. mark) marks)
