-- The items of an array and the keys of a table, beside the data that they stand for.
use Rattle.std.proofs.Common.{◌≡◌, ℕ, suc, Bool, List, [], ◌∷◌, ◌&&◌, ◌||◌, length, String, Global, string_bytes, refl, ap}
use Rattle.std.specs.List.{list_all}
use Rattle.std.specs.Map.{keys_of}
use Rattle.toml.specs.declared.value.Value.{Value}
use Rattle.toml.specs.View.{items_view, members_view}
use Rattle.roam_conf_reader.specs.Document.{has_only, is_one_of}
use Rattle.roam_conf_reader.specs.Values.{item_count}

-- an array has as many items as its data
pub item_count_of : (values : List Value) → item_count (items_view values) ≡ length values
item_count_of [] = refl
item_count_of (value ∷ values) = ap suc (item_count_of values)

-- each text is one of the keys
abbrev pub all_known : List (List ℕ) → List (List ℕ) → List (String Global) → Bool
all_known required optional texts =
    list_all (λ text. is_one_of required (string_bytes text) || is_one_of optional (string_bytes text)) texts

-- the keys of a map are those of its members
pub all_known-keys : (required optional : List (List ℕ)) (entries : List (String Global × Value)) →
    all_known required optional (keys_of entries) ≡ has_only required optional (members_view entries)
all_known-keys required optional [] = refl
all_known-keys required optional (entry ∷ entries) =
    ap (λ rest. (is_one_of required (string_bytes entry.0) || is_one_of optional (string_bytes entry.0)) && rest)
    (all_known-keys required optional entries)
