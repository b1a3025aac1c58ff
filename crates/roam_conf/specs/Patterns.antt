-- The names of a realm beside its own: a whole name, `*.` and a name, or `*`. Ours.
use Rattle.std.specs.Prelude.{ℕ, Bool, true, false, List, [], ◌∷◌, length, nat_le, ◌&&◌, string_bytes, if◌then◌else◌}
use Rattle.std.specs.List.{list_all}
use Rattle.std.specs.Str.{str_eq_ignore_ascii_case}
use Rattle.roam_conf.specs.declared.pattern.RealmPattern.{RealmPattern}
use Rattle.roam_conf.specs.declared.pattern.RealmPattern.TheVariants.{Name, Suffix, Any}
use Rattle.roam_conf.specs.Config.{PatternView, whole, suffix, any, RealmView}
use Rattle.roam_conf.specs.Letters.{is_realm_letter}

abbrev pub shown_pattern : RealmPattern → PatternView
shown_pattern (Name name) = whole (string_bytes name)
shown_pattern (Suffix name) = suffix (string_bytes name)
shown_pattern Any = any

-- a realm's name: 1 to 253 of the letters that it may have
unfoldable pub is_realm_name : List ℕ → Bool
is_realm_name name = nat_le 1 (length name) && nat_le (length name) 253 && list_all is_realm_letter name

-- the name in a pattern is one
abbrev pub is_pattern : PatternView → Bool
is_pattern (whole name) = is_realm_name name
is_pattern (suffix name) = is_realm_name name
is_pattern any = true

-- what may be rejected: a name or a suffix
abbrev pub is_reject : PatternView → Bool
is_reject (whole name) = is_realm_name name
is_reject (suffix name) = is_realm_name name
is_reject any = false

-- the same kind, and the same name without ASCII case
abbrev pub same_pattern : PatternView → PatternView → Bool
same_pattern (whole a) (whole b) = str_eq_ignore_ascii_case a b
same_pattern (suffix a) (suffix b) = str_eq_ignore_ascii_case a b
same_pattern any any = true
same_pattern _ _ = false

-- all that names a realm: its name, and what names it besides; nothing names one that is gone
abbrev pub patterns_of : RealmView → List PatternView
patterns_of realm = if realm.gone then [] else whole realm.name ∷ realm.also
