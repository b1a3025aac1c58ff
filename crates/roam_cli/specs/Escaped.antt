-- Paths and words of the command line as a message shows them: printable ASCII alone, on one line. Ours.
use Rattle.std.specs.Prelude.{ℕ, ◌+◌, ◌==◌, ◌&&◌, ◌/◌, ◌%◌, Bool, not, nat_le, nat_lt, List, [], ◌∷◌, ◌++◌, if◌then◌else◌, codes}
use Rattle.std.specs.List.{flat_map}

-- a hexadecimal digit, in lower case: 48 is `0`, and 97 is `a`
abbrev pub digit : ℕ → ℕ
digit number = if nat_lt number 10 then 48 + number else 87 + number

-- printable in ASCII, and not the reverse solidus (92)
abbrev pub is_shown : ℕ → Bool
is_shown octet = nat_le 32 octet && nat_le octet 126 && not (octet == 92)

-- any other octet is a reverse solidus, an `x` (120) and two digits
abbrev pub escaped_octet : ℕ → List ℕ
escaped_octet octet =
    if is_shown octet then octet ∷ []
    else 92 ∷ 120 ∷ digit (octet / 16) ∷ digit (octet % 16) ∷ []

abbrev pub escaped : List ℕ → List ℕ
escaped octets = flat_map escaped_octet octets

-- the beginning of a message about a path, or about a word
abbrev pub named_text : List ℕ → List ℕ
named_text text = codes "roam: " ++ escaped text
