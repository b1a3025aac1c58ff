-- What follows the last `@` of a name.
use Rattle.std.proofs.Common.{◌≡◌, ◌≢◌, ℕ, false, [], ◌∷◌, refl, arith}
use Rattle.std.specs.Prelude.{◌==◌}
use Rattle.std.proofs.lemmas.Bool.Decides.{nat_tests}
use Rattle.roam_admission.specs.NameLaws.{NameWithoutAtSign, LastAtSignDecides}

other_octet : (octet : ℕ) → octet ≢ 64 → (octet == 64) ≡ false
other_octet octet differs = grind (arith, nat_tests)

pub name_without_at_sign : NameWithoutAtSign
name_without_at_sign [] none = refl
name_without_at_sign (octet ∷ octets) none =
    rw (name_without_at_sign octets none.1, other_octet octet none.0) refl

pub last_at_sign_decides : LastAtSignDecides
last_at_sign_decides [] part none = rw (name_without_at_sign part none) refl
last_at_sign_decides (octet ∷ before) part none = rw (last_at_sign_decides before part none) refl
