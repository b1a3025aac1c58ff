-- Values are read back.
use Rattle.std.proofs.Common.{◌≡◌, ℕ, ◌<◌, Bool, true, false, List, [], ◌∷◌, ◌++◌, append_assoc, refl, subst, sym}
use Rattle.roam_log.specs.Values.{is_plain, quoted_octet, quoted_octets}
use Rattle.roam_log.specs.Quoted.{Reads, closes, plain, digits, ReadsBack}

-- an octet, and what is read behind it
by-test : (octet : ℕ) (text value left : List ℕ) (b : Bool) → is_plain octet ≡ b → octet < 256 → Reads text value left →
    Reads (quoted_octet octet ++ text) (octet ∷ value) left
by-test octet text value left true is small behind =
    let e : quoted_octet octet ≡ octet ∷ [] = rw is refl in
    subst (λ (l : List ℕ). Reads (l ++ text) (octet ∷ value) left) (sym e) (plain octet text value left is behind)
by-test octet text value left false is small behind =
    let e : quoted_octet octet ≡ 92 ∷ 120 ∷ _ ∷ _ ∷ [] = rw is refl in
    subst (λ (l : List ℕ). Reads (l ++ text) (octet ∷ value) left) (sym e) (digits octet text value left small behind)

pub reads_back : ReadsBack
reads_back [] left small = closes left
reads_back (octet ∷ value) left small =
    subst (λ (l : List ℕ). Reads l (octet ∷ value) left)
    (sym (append_assoc (quoted_octet octet) (quoted_octets value) (34 ∷ left)))
    (by-test octet (quoted_octets value ++ 34 ∷ left) value left (is_plain octet) refl small.0
    (reads_back value left small.1))
