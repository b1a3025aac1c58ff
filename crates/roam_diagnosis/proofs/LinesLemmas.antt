-- Lines that are printed one after the other.
use Rattle.std.proofs.Common.{◌≡◌, ℕ, ◌+◌, ◌<◌, List, [], ◌∷◌, ◌++◌, length, take, get_or, Option, refl, sym, ap, ◌∙◌, append_assoc}
use Rattle.std.proofs.lemmas.List.{take_more}
use Rattle.std.proofs.KnownBytes.{Appends-trans}
use Rattle.std.specs.Io.KnownBytes.{Appends}
use Rattle.roam_diagnosis.specs.Lines.{printed}

-- lines are printed one after the other
printed-append : (xs ys : List (List ℕ)) → printed (xs ++ ys) ≡ printed xs ++ printed ys
printed-append [] ys = refl
printed-append (line ∷ rest) ys =
    ap (λ text. line ++ 10 ∷ [] ++ text) (printed-append rest ys)
    ∙ sym (append_assoc (line ++ 10 ∷ []) (printed rest) (printed ys))

-- one more line was printed
pub printed_next : (lines : List (List ℕ)) (line : List ℕ) (i : ℕ) (old now new : Option (List ℕ)) → i < length lines
    → line ≡ get_or lines i line
    → Appends old now (printed (take i lines)) → Appends now new (printed (line ∷ [])) →
    Appends old new (printed (take (i + 1) lines))
printed_next lines line i old now new within is before here =
    let more : take (i + 1) lines ≡ take i lines ++ line ∷ [] =
    take_more lines i line within ∙ ap (λ l. take i lines ++ l ∷ []) (sym is) in
    let text : printed (take (i + 1) lines) ≡ printed (take i lines) ++ printed (line ∷ []) =
    ap printed more ∙ printed-append (take i lines) (line ∷ []) in
    rw text (Appends-trans old now new _ _ before here)
