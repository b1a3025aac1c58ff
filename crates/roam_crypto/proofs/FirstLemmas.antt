-- The first element of a list that passes a test, found by going over the list.
use Rattle.std.proofs.Common.{◌≡◌, ℕ, zero, suc, ◌<◌, Bool, true, false, List, [], ◌∷◌, length, take, get_or, Option, Some, None, refl, ap, ◌∙◌, arith}
use Rattle.std.specs.Prelude.{if◌then◌else◌}
use Rattle.std.specs.List.{find}

-- none is found where the front isn't it, and none behind it
not_here : {X : Type 0} (b : Bool) (x : X) (o : Option X) → (if b then Some x else o) ≡ None
    → (b ≡ false) × (o ≡ None)
not_here true x o h = absurd (cc)
not_here false x o h = (refl, h)

-- one that passes, behind those that don't, is the first
pub found_first : {X : Type 0} (test : X → Bool) (xs : List X) (i : ℕ) (d : X) → find test (take i xs) ≡ None
    → i < length xs → test (get_or xs i d) ≡ true → find test xs ≡ Some (get_or xs i d)
found_first test [] i d none below is = absurd (omega arith)
found_first test (x ∷ xs) zero d none below is = ap (λ (b : Bool). if b then Some x else find test xs) is
found_first test (x ∷ xs) (suc i) d none below is =
    let parts = not_here (test x) x (find test (take i xs)) none in
    ap (λ (b : Bool). if b then Some x else find test xs) parts.0
    ∙ found_first test xs i d parts.1 (omega arith) is

-- another one that doesn't pass
none_more : {X : Type 0} (test : X → Bool) (xs : List X) (i : ℕ) (d : X) → find test (take i xs) ≡ None
    → i < length xs → test (get_or xs i d) ≡ false → find test (take (suc i) xs) ≡ None
none_more test [] i d none below other = absurd (omega arith)
none_more test (x ∷ xs) zero d none below other = ap (λ (b : Bool). if b then Some x else None) other
none_more test (x ∷ xs) (suc i) d none below other =
    let parts = not_here (test x) x (find test (take i xs)) none in
    ap (λ (b : Bool). if b then Some x else find test (take (suc i) xs)) parts.0
    ∙ none_more test xs i d parts.1 (omega arith) other

pub none_yet : {X : Type 0} (test : X → Bool) (xs : List X) (i n : ℕ) (d : X) → n ≡ suc i
    → find test (take i xs) ≡ None → i < length xs → test (get_or xs i d) ≡ false → find test (take n xs) ≡ None
none_yet test xs i n d is none below other =
    ap (λ (m : ℕ). find test (take m xs)) is ∙ none_more test xs i d none below other
