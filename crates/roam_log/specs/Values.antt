-- The form of a packet's value in a line: between quotation marks, and whatever octets it has printable. Ours.
use Rattle.std.specs.Prelude.{ℕ, ◌+◌, ◌==◌, ◌&&◌, ◌/◌, ◌%◌, Bool, false, not, nat_le, nat_lt, min, replicate, take, List, [], ◌∷◌, ◌++◌, Option, Some, None, if◌then◌else◌, codes}
use Rattle.std.specs.List.{flat_map}
use Rattle.roam_log.specs.declared.exchange.Value.{Value}
pub use Rattle.roam_admission.specs.RejectCauses.{shown_value}

-- the octets of a value, if there is one
abbrev pub octets_if : Value → Option (List ℕ)
octets_if value = if value.is_there then Some (take (min value.len 253) value.octets) else None

-- that there is none
abbrev pub no_value : Value
no_value = record { is_there = false; len = 0; octets = replicate 253 0 }

-- a hexadecimal digit, in lower case: 48 is `0`, and 97 is `a`
abbrev pub digit : ℕ → ℕ
digit number = if nat_lt number 10 then 48 + number else 87 + number

-- printable in ASCII, but neither the quotation mark (34) nor the reverse solidus (92)
abbrev pub is_plain : ℕ → Bool
is_plain octet = nat_le 32 octet && nat_le octet 126 && not (octet == 34) && not (octet == 92)

-- an octet of a value: any other is a reverse solidus, an `x` (120) and two digits
abbrev pub quoted_octet : ℕ → List ℕ
quoted_octet octet =
    if is_plain octet then octet ∷ []
    else 92 ∷ 120 ∷ digit (octet / 16) ∷ digit (octet % 16) ∷ []

-- octets by two digits each
abbrev pub digits_of_octet : ℕ → List ℕ
digits_of_octet octet = digit (octet / 16) ∷ digit (octet % 16) ∷ []

abbrev pub digits_text : List ℕ → List ℕ
digits_text octets = flat_map digits_of_octet octets

abbrev pub quoted_octets : List ℕ → List ℕ
quoted_octets value = flat_map quoted_octet value

-- a key, and a value between quotation marks, or a hyphen
abbrev pub value_text : List ℕ → Option (List ℕ) → List ℕ
value_text key None = key ++ codes "-"
value_text key (Some value) = key ++ codes "\"" ++ quoted_octets value ++ codes "\""
