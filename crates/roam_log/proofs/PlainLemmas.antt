-- A value whose octets stand as themselves.
use Rattle.std.proofs.Common.{◌≡◌, ℕ, true, List, [], ◌∷◌, ap, refl}
use Rattle.std.proofs.lemmas.Bool.{and_parts}
use Rattle.std.specs.List.{list_all}
use Rattle.roam_log.specs.Values.{is_plain, quoted_octet, quoted_octets}

pub all-plain : (value : List ℕ) → list_all is_plain value ≡ true → quoted_octets value ≡ value
all-plain [] are = refl
all-plain (octet ∷ octets) are =
    let both = and_parts (is_plain octet) (list_all is_plain octets) are in
    let one : quoted_octet octet ≡ octet ∷ [] = rw both.0 refl in
    rw one (ap (λ (l : List ℕ). octet ∷ l) (all-plain octets both.1))
