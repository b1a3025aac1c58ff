-- Octets that are shown one after the other.
use Rattle.std.proofs.Common.{◌≡◌, ℕ, ◌+◌, ◌<◌, List, [], ◌∷◌, ◌++◌, length, take, get_or, ap, ◌∙◌, append-nil}
use Rattle.std.proofs.lemmas.Grind.{flat_map-append, get_or_default_zero}
use Rattle.std.proofs.lemmas.List.{take_more}
use Rattle.roam_cli.specs.Escaped.{escaped, escaped_octet}

-- one more octet is shown
pub escaped_next : (octets : List ℕ) (i : ℕ) → i < length octets →
    escaped (take (i + 1) octets) ≡ escaped (take i octets) ++ escaped_octet (get_or octets i 0)
escaped_next octets i within =
    let octet = get_or octets i 0 in
    let more : take (i + 1) octets ≡ take i octets ++ octet ∷ [] =
    take_more octets i octet within ∙ ap (λ o. take i octets ++ o ∷ []) (get_or_default_zero octets i octet within) in
    ap escaped more ∙ flat_map-append escaped_octet (take i octets) (octet ∷ [])
    ∙ ap (λ text. escaped (take i octets) ++ text) (append-nil (escaped_octet octet))
