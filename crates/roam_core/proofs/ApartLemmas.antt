-- The servers of a request's order are apart: none stands there twice.
use Rattle.std.proofs.Common.{◌≡◌, ℕ, suc, zero, ◌+◌, ◌<◌, ◌≤◌, true, false, List, [], ◌∷◌, ◌++◌, refl, sym, ap, ◌∙◌, inl, inr, arith, drop, take, is_some}
use Rattle.std.specs.Prelude.{◌==◌, if◌then◌else◌}
use Rattle.std.specs.List.{list_any}
use Rattle.std.proofs.lemmas.Bool.{cases_Bool, or_parts, or_right}
use Rattle.std.proofs.lemmas.Bool.Decides.{nat_tests}
use Rattle.roam_conf.specs.Config.{ServerView}
use Rattle.roam_realm.specs.RealmConfig.{service_at}
use Rattle.roam_realm.specs.ServerOrder.{behind, places_of, turned}
use Rattle.roam_realm.specs.declared.service.Service.{Service}
use Rattle.roam_realm.proofs.OrderLemmas.{behind-later}

-- no element stands twice
abbrev pub AreApart : List ℕ → Type 0
AreApart [] = Unit {0}
AreApart (x ∷ xs) = (list_any (λ y. x == y) xs ≡ false) × AreApart xs

-- a list ends in another one: what stands behind each element there stands behind it here
abbrev pub EndsSo : List ℕ → List ℕ → Type 0
EndsSo whole xs = (y : ℕ) → list_any (λ z. y == z) xs ≡ true → behind y whole ≡ behind y xs

-- how often an element stands in a list
abbrev times_in : ℕ → List ℕ → ℕ
times_in y [] = 0
times_in y (x ∷ xs) = (if y == x then 1 else 0) + times_in y xs

none_in : (y : ℕ) (xs : List ℕ) → times_in y xs ≡ 0 → list_any (λ z. y == z) xs ≡ false
none_in y [] none = refl
none_in y (x ∷ xs) none =
    elim (cases_Bool (y == x)) [
      | inl is ↦ absurd (let k : 1 + times_in y xs ≡ 0 = rw is at none in omega (arith, k))
      | inr n ↦ rw n (none_in y xs (let k : 0 + times_in y xs ≡ 0 = rw n at none in omega (arith, k)))
    ]

-- where each stands there once at most, they are apart
once-apart : (xs : List ℕ) → ((y : ℕ) → times_in y xs ≤ 1) → AreApart xs
once-apart [] once = tt
once-apart (x ∷ xs) once =
    let itself : (x == x) ≡ true = grind (arith, nat_tests) in
    let here : 1 + times_in x xs ≤ 1 = rw itself at (once x) in
    let fewer : (y : ℕ) → times_in y xs ≤ 1 = λ y. omega (arith, once y) in
    (none_in x xs (omega (arith, here)), once-apart xs fewer)

times-append : (y : ℕ) (xs ys : List ℕ) → times_in y (xs ++ ys) ≡ times_in y xs + times_in y ys
times-append y [] ys = omega arith
times-append y (x ∷ xs) ys = let rest = times-append y xs ys in omega (arith, rest)

times-turned : (y k : ℕ) (xs : List ℕ) → times_in y (drop k xs) + times_in y (take k xs) ≡ times_in y xs
times-turned y zero xs = omega arith
times-turned y (suc k) [] = omega arith
times-turned y (suc k) (x ∷ xs) = let rest = times-turned y k xs in omega (arith, rest)

-- the places of servers rise
places-above : (asked : Service) (ss : List ServerView) (from y : ℕ) → y < from →
    times_in y (places_of asked from ss) ≡ 0
places-above asked [] from y below = refl
places-above asked (s ∷ ss) from y below =
    let rest = places-above asked ss (from + 1) y (omega (arith, below)) in
    let other : (y == from) ≡ false = grind (arith, nat_tests, below) in
    elim (cases_Bool (is_some (service_at asked s))) [
      | inl b ↦ rw (b, other) (omega (arith, rest))
      | inr n ↦ rw n rest
    ]

places-once : (asked : Service) (ss : List ServerView) (from y : ℕ) → times_in y (places_of asked from ss) ≤ 1
places-once asked [] from y = omega arith
places-once asked (s ∷ ss) from y =
    let rest = places-once asked ss (from + 1) y in
    elim (cases_Bool (is_some (service_at asked s))) [
      | inr n ↦ rw n rest
      | inl b ↦ elim (cases_Bool (y == from)) [
        | inr other ↦ rw (b, other) (omega (arith, rest))
        | inl is ↦
            let same : y ≡ from = grind (arith, nat_tests, is) in
            let none = places-above asked ss (from + 1) y (omega (arith, same)) in
            rw (b, is) (omega (arith, none))
      ]
    ]

pub turned-apart : (asked : Service) (ss : List ServerView) (start : ℕ) → AreApart (turned start (places_of asked 0 ss))
turned-apart asked ss start =
    let places = places_of asked 0 ss in
    once-apart (turned start places)
    (λ y. omega (
      arith,
      places-once asked ss 0 y,
      times-append y (drop start places) (take start places),
      times-turned y start places,
    ))

-- ---- what stands behind an element

-- what isn't in a list isn't behind an element of it
not-behind : (y one : ℕ) (xs : List ℕ) → list_any (λ z. y == z) xs ≡ false →
    list_any (λ z. y == z) (behind one xs) ≡ false
not-behind y one [] none = refl
not-behind y one (x ∷ xs) none =
    let parts = or_parts (y == x) (list_any (λ z. y == z) xs) none in
    elim (cases_Bool (x == one)) [
      | inl is ↦ rw is parts.1
      | inr n ↦ rw n (not-behind y one xs parts.1)
    ]

pub behind-apart : (one : ℕ) (xs : List ℕ) → AreApart xs → AreApart (behind one xs)
behind-apart one [] apart = tt
behind-apart one (x ∷ xs) apart =
    elim (cases_Bool (x == one)) [
      | inl is ↦ rw is apart.1
      | inr n ↦ rw n (behind-apart one xs apart.1)
    ]

-- an element of the rest is another one than the first
other-first : (x y : ℕ) (xs : List ℕ) → list_any (λ z. x == z) xs ≡ false → list_any (λ z. y == z) xs ≡ true →
    (x == y) ≡ false
other-first x y xs none some =
    elim (cases_Bool (x == y)) [
      | inr n ↦ n
      | inl is ↦
          let same : x ≡ y = grind (arith, nat_tests, is) in
          absurd (let k : false ≡ true = sym none ∙ ap (λ (v : ℕ). list_any (λ z. v == z) xs) same ∙ some in cc)
    ]

pub ends-later : (whole : List ℕ) (x : ℕ) (xs : List ℕ) → AreApart (x ∷ xs) → EndsSo whole (x ∷ xs) → EndsSo whole xs
ends-later whole x xs apart ends y there =
    ends y (or_right (y == x) (list_any (λ z. y == z) xs) there)
    ∙ behind-later y x xs (other-first x y xs apart.0 there)

-- what is behind an element is in the list
in-behind : (y one : ℕ) (xs : List ℕ) → list_any (λ z. y == z) (behind one xs) ≡ true →
    list_any (λ z. y == z) xs ≡ true
in-behind y one xs there =
    elim (cases_Bool (list_any (λ z. y == z) xs)) [
      | inl is ↦ is
      | inr n ↦ absurd (let k : false ≡ true = sym (not-behind y one xs n) ∙ there in cc)
    ]

pub behind-ends : (one : ℕ) (xs : List ℕ) → AreApart xs → EndsSo xs (behind one xs)
behind-ends one [] apart y there = refl
behind-ends one (x ∷ xs) apart y there =
    elim (cases_Bool (x == one)) as (λ b. behind y (x ∷ xs) ≡ behind y (behind one (x ∷ xs))) [
      | inl is ↦
          let in_rest : list_any (λ z. y == z) xs ≡ true = rw is at there in
          rw is (behind-later y x xs (other-first x y xs apart.0 in_rest))
      | inr n ↦
          let in_rest : list_any (λ z. y == z) (behind one xs) ≡ true = rw n at there in
          rw n (behind-later y x xs (other-first x y xs apart.0 (in-behind y one xs in_rest))
          ∙ behind-ends one xs apart.1 y in_rest)
    ]
