-- What all tickets have, in a row, where one comes in or goes.
use Rattle.std.proofs.Common.{◌≡◌, ◌≢◌, ℕ, zero, suc, ◌+◌, ◌<◌, ◌≤◌, Bool, true, false, List, [], ◌∷◌, ◌++◌, length, drop, Option, Some, None, refl, sym, ap, ◌∙◌, inl, inr, arith}
use Rattle.std.specs.Prelude.{◌||◌, filter, IsSome, if◌then◌else◌}
use Rattle.std.specs.List.{cons_option, list_any}
use Rattle.std.proofs.lemmas.Bool.{cases_Bool, cases_eq, or_from}
use Rattle.roam_wire.specs.Numbered.{listed}

module _ {X : Type 0} where
  -- what passes a test
  abbrev pub kept_of : (X → Bool) → Option X → Option X
  kept_of p None = None
  kept_of p (Some x) = if p x then Some x else None

  pub listed-same : (f g : ℕ → Option X) (t n : ℕ) → ((u : ℕ) → t ≤ u → g u ≡ f u)
      → listed g t n ≡ listed f t n
  unfolding listed
  listed-same f g t zero h = refl
  listed-same f g t (suc n) h = rw (
    h t (omega arith),
    listed-same f g (t + 1) n (λ u le. h u (omega arith)),
  ) refl

  pub listed-none : (f : ℕ → Option X) (t n : ℕ) → ((u : ℕ) → t ≤ u → f u ≡ None)
      → listed f t n ≡ []
  unfolding listed
  listed-none f t zero h = refl
  listed-none f t (suc n) h = rw (h t (omega arith))
      (listed-none f (t + 1) n (λ u le. h u (omega arith)))

  filter-cons : (p : X → Bool) (o : Option X) (xs : List X)
      → cons_option (kept_of p o) (filter p xs) ≡ filter p (cons_option o xs)
  filter-cons p None xs = refl
  filter-cons p (Some x) xs = elim (cases_Bool (p x)) [
    | inl passes ↦ rw passes refl
    | inr fails ↦ rw fails refl
  ]

  -- those that pass a test stay
  pub listed-filter : (p : X → Bool) (f g : ℕ → Option X) (t n : ℕ)
      → ((u : ℕ) → g u ≡ kept_of p (f u)) → listed g t n ≡ filter p (listed f t n)
  unfolding listed
  listed-filter p f g t zero h = refl
  listed-filter p f g t (suc n) h = rw (h t, listed-filter p f g (t + 1) n h)
      (filter-cons p (f t) (listed f (t + 1) n))

  -- one goes behind all others
  pub listed-last : (f g : ℕ → Option X) (t n u : ℕ) (x : X) → g u ≡ Some x
      → ((v : ℕ) → v ≢ u → g v ≡ f v)
      → ((v : ℕ) → u ≤ v → f v ≡ None) → t ≤ u → u < t + n → listed g t n ≡ listed f t n ++ x ∷ []
  unfolding listed
  listed-last f g t zero u x at others none le lt = absurd (omega arith)
  listed-last f g t (suc n) u x at others none le lt = elim (cases_eq t u) [
    | inl is ↦ (
        let here : g t ≡ Some x = ap g is ∙ at in
        let was : f t ≡ None = none t (omega arith) in
        let behind : listed g (t + 1) n ≡ [] =
        listed-none g (t + 1) n (λ v ge. others v (λ e. absurd (omega arith))
        ∙ none v (omega arith)) in
        let empty : listed f (t + 1) n ≡ [] = listed-none f (t + 1) n (λ v ge. none v (omega arith))
        in
        rw (here, was, behind, empty) refl)
    | inr ne ↦ rw (
      others t ne,
      listed-last f g (t + 1) n u x at others none (omega arith)
          (omega arith),
    )
        (append-cons (f t) (listed f (t + 1) n) (x ∷ []))
  ]
    where
      append-cons : (o : Option X) (xs ys : List X)
          → cons_option o (xs ++ ys) ≡ cons_option o xs ++ ys
      append-cons None xs ys = refl
      append-cons (Some y) xs ys = refl

  -- the first one goes
  pub listed-rest : (f g : ℕ → Option X) (t n u : ℕ) → IsSome (f u) → g u ≡ None
      → ((v : ℕ) → v ≢ u → g v ≡ f v)
      → ((v : ℕ) → t ≤ v → v < u → f v ≡ None) → t ≤ u → u < t + n
      → listed g t n ≡ drop 1 (listed f t n)
  unfolding listed
  listed-rest f g t zero u held gone others before le lt = absurd (omega arith)
  listed-rest f g t (suc n) u held gone others before le lt = elim (cases_eq t u) [
    | inl is ↦ (
        let here : g t ≡ None = ap g is ∙ gone in
        let same : listed g (t + 1) n ≡ listed f (t + 1) n =
        listed-same f g (t + 1) n (λ v ge. others v (λ e. absurd (omega arith))) in
        let there : IsSome (f t) = rw is held in
        rw (here, same) (sym (rest (f t) (listed f (t + 1) n) there)))
    | inr ne ↦ (
        let here : f t ≡ None = before t (omega arith) (omega arith) in
        rw (others t ne, here) (listed-rest f g (t + 1) n u held gone others
        (λ v ge less. before v (omega arith) less) (omega arith) (omega arith)))
  ]
    where
      rest : (o : Option X) (xs : List X) → IsSome o → drop 1 (cons_option o xs) ≡ xs
      rest None xs held = absurd (cc held)
      rest (Some y) xs held = refl

  -- one goes: there is one less
  pub length-gone : (f g : ℕ → Option X) (t n u : ℕ) → IsSome (f u) → g u ≡ None
      → ((v : ℕ) → v ≢ u → g v ≡ f v)
      → t ≤ u → u < t + n → length (listed g t n) + 1 ≡ length (listed f t n)
  unfolding listed
  length-gone f g t zero u held gone others le lt = absurd (omega arith)
  length-gone f g t (suc n) u held gone others le lt = elim (cases_eq t u) [
    | inl is ↦ (
        let here : g t ≡ None = ap g is ∙ gone in
        let same : listed g (t + 1) n ≡ listed f (t + 1) n =
        listed-same f g (t + 1) n (λ v ge. others v (λ e. absurd (omega arith))) in
        let there : IsSome (f t) = rw is held in
        rw (here, same) (sym (one (f t) (listed f (t + 1) n) there)))
    | inr ne ↦ rw (others t ne) (more (f t) (listed g (t + 1) n) (listed f (t + 1) n)
        (length-gone f g (t + 1) n u held gone others (omega arith) (omega arith)))
  ]
    where
      one : (o : Option X) (xs : List X) → IsSome o → length (cons_option o xs) ≡ length xs + 1
      one None xs held = absurd (cc held)
      one (Some y) xs held = omega arith

      more : (o : Option X) (xs ys : List X) → length xs + 1 ≡ length ys
          → length (cons_option o xs) + 1 ≡ length (cons_option o ys)
      more None xs ys e = e
      more (Some y) xs ys e = omega arith

  -- none passes a test, or one does
  pub any-none : (p : X → Bool) (f : ℕ → Option X) (t n : ℕ)
      → ((u : ℕ) (x : X) → f u ≡ Some x → p x ≡ false) → list_any p (listed f t n) ≡ false
  unfolding listed
  any-none p f t zero h = refl
  any-none p f t (suc n) h = none (f t) (listed f (t + 1) n) (λ x at. h t x at)
      (any-none p f (t + 1) n h)
    where
      none : (o : Option X) (xs : List X) → ((x : X) → o ≡ Some x → p x ≡ false)
          → list_any p xs ≡ false → list_any p (cons_option o xs) ≡ false
      none None xs k rest = rest
      none (Some x) xs k rest = or_from (p x) (list_any p xs) (k x refl) rest

  pub any-one : (p : X → Bool) (f : ℕ → Option X) (t n u : ℕ) (x : X) → f u ≡ Some x → p x ≡ true
      → t ≤ u → u < t + n → list_any p (listed f t n) ≡ true
  unfolding listed
  any-one p f t zero u x at passes le lt = absurd (omega arith)
  any-one p f t (suc n) u x at passes le lt = elim (cases_eq t u) [
    | inl is ↦ (
        let here : f t ≡ Some x = ap f is ∙ at in
        rw (here, passes) refl)
    | inr ne ↦ later (f t) (listed f (t + 1) n)
        (any-one p f (t + 1) n u x at passes (omega arith) (omega arith))
  ]
    where
      or-true : (b : Bool) → (b || true) ≡ true
      or-true true = refl
      or-true false = refl

      later : (o : Option X) (xs : List X) → list_any p xs ≡ true
          → list_any p (cons_option o xs) ≡ true
      later None xs h = h
      later (Some y) xs h = rw h (or-true (p y))
