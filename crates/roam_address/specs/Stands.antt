-- The meaning of an index. Ours.
use Rattle.std.specs.Prelude.{◌≡◌, ℕ, Bool, List, map, position, Option}
use Rattle.roam_address.specs.contracts.leading.LeadingPartialEq.TheImpl as leadings
use Rattle.roam_address.specs.declared.leading.Leading.{Leading}
use Rattle.roam_address.specs.declared.prefix.Prefix.{Prefix}
use Rattle.roam_address.specs.declared.prefix_index.PrefixIndex.{PrefixIndex}
use Rattle.roam_address.specs.Prefixes.{leading_of}

-- its keys, in their order
abbrev pub keys : {A : Type 0} → PrefixIndex A → List Leading
keys index = index.keys.keys

-- which lengths are marked
abbrev pub marks : {A : Type 0} → PrefixIndex A → List Bool
marks index = index.lengths

-- it has the bits of these prefixes, in their order
abbrev pub StandsFor : {A : Type 0} → PrefixIndex A → List Prefix → Type 0
StandsFor index prefixes = keys index ≡ map leading_of prefixes

-- the place of a key
abbrev pub place_of : {A : Type 0} → PrefixIndex A → Leading → Option ℕ
place_of index key = position ((leadings.ghosts).eq key) (keys index)
