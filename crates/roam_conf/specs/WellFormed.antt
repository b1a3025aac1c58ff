-- Names that are well formed: realms of network access identifiers (RFC 7542, section 2.2).
use Rattle.std.specs.Prelude.{ℕ, ◌==◌, ◌&&◌, ◌||◌, ◌-◌, not, nat_lt, Bool, List, length, slice_index}
use Rattle.std.specs.Char.{is_ascii_alphanumeric}
use Rattle.std.specs.List.{list_all, list_any}
use Rattle.roam_conf.specs.Texts.{parts}

-- an octet of a label: a letter, a digit, the hyphen (45), or one of a letter beyond ASCII
abbrev pub is_label_octet : ℕ → Bool
is_label_octet octet = is_ascii_alphanumeric octet || octet == 45 || nat_lt 127 octet

-- the first octet is a hyphen; and the last
abbrev pub begins_with_hyphen : List ℕ → Bool
begins_with_hyphen label = slice_index label 0 == 45

abbrev pub ends_in_hyphen : List ℕ → Bool
ends_in_hyphen label = slice_index label (length label - 1) == 45

-- a label: at least one octet, none but those that it may have, no hyphen at either end
abbrev pub is_label : List ℕ → Bool
is_label label =
    nat_lt 0 (length label) && list_all is_label_octet label && not (begins_with_hyphen label)
    && not (ends_in_hyphen label)

-- labels joined by dots (46), of which there is at least one
unfoldable pub is_well_formed : List ℕ → Bool
is_well_formed name = list_any (λ octet. octet == 46) name && list_all is_label (parts 46 name)
