-- The indexes of a configuration: the owner of each key, where a key is a row of octets. Ours.
use Rattle.std.specs.Prelude.{◌≡◌, ℕ, suc, ◌≤◌, Bool, true, false, ◌&&◌, List, [], ◌∷◌, ◌++◌, length, map, slice_index_or, Option, None, is_none, if◌then◌else◌}
use Rattle.std.specs.Map.{lookup}
use Rattle.std.specs.Str.{bytes_eq, str_to_ascii_lowercase}
use Rattle.std.specs.declared.vec.Vec.{Vec}
use Rattle.indexmap.specs.IndexMap.{IndexMap}
use Rattle.roam_conf.specs.declared.names.PatternRef.{PatternRef}
use Rattle.roam_conf.specs.declared.names.PatternRef.TheVariants.{Name, Suffix, Any}
use Rattle.roam_conf.specs.Config.{PatternView, whole, suffix, any}

-- the keys of an index with their owners, in the order in which they came
abbrev pub entry_shown : {Z : Type 0} → Vec ℕ Z × ℕ → List ℕ × ℕ
entry_shown entry = (entry.0.items, entry.1)

abbrev pub owners : {Z H : Type 0} → IndexMap (Vec ℕ Z) ℕ H → List (List ℕ × ℕ)
owners index = map entry_shown index.entries

-- the owner of a key
abbrev pub owner_of : List (List ℕ × ℕ) → List ℕ → Option ℕ
owner_of entries key = lookup (bytes_eq key) entries

-- nobody owns a key
abbrev pub is_unowned : List (List ℕ × ℕ) → List ℕ → Bool
is_unowned entries key = is_none (owner_of entries key)

-- a key with its owner behind the others, unless the key is there
abbrev pub with_key : List (List ℕ × ℕ) → List ℕ → ℕ → List (List ℕ × ℕ)
with_key entries key owner = if is_none (owner_of entries key) then entries ++ (key, owner) ∷ [] else entries

-- none of these keys is there, or twice among them
abbrev pub all_new : List (List ℕ × ℕ) → List (List ℕ × ℕ) → Bool
all_new entries [] = true
all_new entries (more ∷ rest) = is_none (owner_of entries more.0) && all_new (entries ++ more ∷ []) rest

-- a pattern as a row of octets, in lower case: equal rows are of equal patterns. A suffix has its dot (46) in front, so
-- that its row is the end of each name that it fits
abbrev pub pattern_key : PatternView → List ℕ
pattern_key (whole name) = 0 ∷ str_to_ascii_lowercase name
pattern_key (suffix name) = 46 ∷ str_to_ascii_lowercase name
pattern_key any = 2 ∷ []

-- a pattern that is looked for
abbrev pub pattern_seen : PatternRef → PatternView
pattern_seen (Name name) = whole name.now
pattern_seen (Suffix name) = suffix name.now
pattern_seen Any = any

-- a pattern of this owner
abbrev pub of_owner : ℕ → PatternView → List ℕ × ℕ
of_owner owner pattern = (pattern_key pattern, owner)

-- a text that nobody owns: the owners of such an index don't count
abbrev pub of_nobody : List ℕ → List ℕ × ℕ
of_nobody text = (text, 0)

-- all patterns of these lists, of which the first has this owner
abbrev pub all_patterns : ℕ → List (List PatternView) → List (List ℕ × ℕ)
all_patterns i [] = []
all_patterns i (list ∷ lists) = map (of_owner i) list ++ all_patterns (suc i) lists

-- whether a length is marked
abbrev pub is_marked : List Bool → ℕ → Bool
is_marked marks n = slice_index_or marks n false

-- where the key is a suffix's, its length is marked; a realm has none of more than 253 octets
abbrev pub HasMark : List Bool → List ℕ → Type 0
HasMark marks key = (name : List ℕ) → key ≡ 46 ∷ name → length name ≤ 253 → is_marked marks (length name) ≡ true

-- of a length that isn't marked no suffix has an owner
abbrev pub AreMarked : List Bool → List (List ℕ × ℕ) → Type 0
AreMarked marks entries =
    (name : List ℕ) → length name ≤ 253 → is_marked marks (length name) ≡ false → owner_of entries (46 ∷ name) ≡ None

-- of a length of at most 253 octets that isn't marked no front has an owner
abbrev pub AreLengths : List Bool → List (List ℕ × ℕ) → Type 0
AreLengths marks entries =
    (front : List ℕ) → length front ≤ 253 → is_marked marks (length front) ≡ false → owner_of entries front ≡ None
