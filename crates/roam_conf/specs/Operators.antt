-- When two Operator-Names mean the same (RFC 5580, section 4.1). A value is a namespace, of one octet, and a name
-- behind it.
use Rattle.std.specs.Prelude.{ℕ, ◌==◌, ◌&&◌, Bool, false, if◌then◌else◌, List, [], ◌∷◌, Option, Some}
use Rattle.std.specs.Str.{bytes_eq, str_eq_ignore_ascii_case, str_to_ascii_lowercase}

-- the namespace is REALM, the digit 1 (49) (RFC 5580, section 4.1)
abbrev pub names_realm : List ℕ → Bool
names_realm [] = false
names_realm (space ∷ name) = space == 49

-- two values mean the same where they are equal; where both are of namespace REALM, without ASCII case, as the names of
-- realms are (ours)
abbrev pub same_operator : List ℕ → List ℕ → Bool
same_operator a b = if names_realm a && names_realm b then str_eq_ignore_ascii_case a b else bytes_eq a b

-- both are there, and mean the same
abbrev pub same_operator_if_there : Option (List ℕ) → Option (List ℕ) → Bool
same_operator_if_there (Some a) (Some b) = same_operator a b
same_operator_if_there _ _ = false

-- by what a value is found in an index: as it stands, in namespace REALM in lower case
abbrev pub operator_key : List ℕ → List ℕ
operator_key value = if names_realm value then str_to_ascii_lowercase value else value
