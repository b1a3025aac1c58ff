-- What holds of each element of a list, and of each two.
use Rattle.std.proofs.Common.{ℕ, ◌<◌, List, [], ◌∷◌, map, take, length, subst, arith}
use Rattle.std.specs.List.{All, AllPairs}
use Rattle.std.proofs.lemmas.List.{get_or-map, get_or-take, length-map, length-take}
use Rattle.std.proofs.lemmas.List.Elements.{All-nil, All-cons, All-head, All-tail}

-- what holds of each element as it is seen
pub All-map : {X Y : Type 0} (f : X → Y) (P : Y → Type 0) (xs : List X)
    → All (λ x. P (f x)) xs
    → All P (map f xs)
All-map f P [] all = All-nil P
All-map f P (x ∷ xs) all =
    All-cons P (f x) (map f xs)
    (All-head (λ y. P (f y)) x xs all)
    (All-map f P xs (All-tail (λ y. P (f y)) x xs all))

pub All-from_map : {X Y : Type 0} (f : X → Y) (P : Y → Type 0) (xs : List X)
    → All P (map f xs)
    → All (λ x. P (f x)) xs
All-from_map f P xs all k d within =
    subst P (get_or-map f xs k d (f d) within) (all k (f d) (rw (length-map xs f) within))

-- what holds of each two elements holds of each two of the first ones
pub AllPairs-take : {X : Type 0} (R : X → X → Type 0) (n : ℕ) (xs : List X)
    → AllPairs R xs
    → AllPairs R (take n xs)
AllPairs-take R n xs pairs i j d before within =
    let short = length-take n xs in
    let i_first : i < n = omega arith in
    let j_first : j < n = omega arith in
    let j_within : j < length xs = omega arith in
    rw (get_or-take n xs i d i_first, get_or-take n xs j d j_first) (pairs i j d before j_within)
