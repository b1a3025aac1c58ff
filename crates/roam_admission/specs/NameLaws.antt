-- The realm part of a name (ours).
use Rattle.std.specs.Prelude.{◌≡◌, ◌≢◌, ℕ, List, ◌∷◌, ◌++◌, Some, None}
use Rattle.std.specs.List.{AllByRecursion}
use Rattle.roam_admission.specs.UserName.{realm_part}

-- an octet isn't `@`
abbrev pub IsNoAtSign : ℕ → Type 0
IsNoAtSign octet = octet ≢ 64

-- a name without `@` has no realm part
abbrev pub NameWithoutAtSign : Type 0
NameWithoutAtSign = (name : List ℕ) → AllByRecursion IsNoAtSign name → realm_part name ≡ None

-- what follows an `@`, and holds none itself, is the realm part, whatever stands before
abbrev pub LastAtSignDecides : Type 0
LastAtSignDecides = (before part : List ℕ) → AllByRecursion IsNoAtSign part →
    realm_part (before ++ 64 ∷ part) ≡ Some part
