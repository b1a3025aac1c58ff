-- A test of what some numbers are, and what is left where one of them goes.
use Rattle.std.proofs.Common.{◌≡◌, ◌≢◌, ℕ, zero, suc, ◌+◌, ◌<◌, ◌≤◌, Bool, true, false, List, ◌∷◌, Option, Some, None, refl, ap, ◌∙◌, subst, inl, inr, arith}
use Rattle.std.specs.Prelude.{filter}
use Rattle.std.specs.List.{cons_option, list_all}
use Rattle.std.proofs.lemmas.Bool.{and_from, and_parts, cases_Bool, cases_eq}
use Rattle.roam_wire.specs.Numbered.{listed}
use Rattle.roam_sessions.specs.Sessions.{without_first}
use Rattle.roam_sessions.proofs.ListedLemmas.{listed-same}

module _ {X : Type 0} (test : X → Bool) where
  -- all pass, where each does; each does, where all pass
  pub all-pass : (f : ℕ → Option X) (t n : ℕ) → ((u : ℕ) (x : X) → f u ≡ Some x → test x ≡ true)
      → list_all test (listed f t n) ≡ true
  unfolding listed
  all-pass f t zero each = refl
  all-pass f t (suc n) each = more (f t) (listed f (t + 1) n) (λ x at. each t x at) (all-pass f (t + 1) n each)
    where
      more : (o : Option X) (xs : List X) → ((x : X) → o ≡ Some x → test x ≡ true) → list_all test xs ≡ true
          → list_all test (cons_option o xs) ≡ true
      more None xs is rest = rest
      more (Some x) xs is rest = and_from (test x) (list_all test xs) (is x refl) rest

  pub each-passes : (f : ℕ → Option X) (t n u : ℕ) (x : X) → list_all test (listed f t n) ≡ true → f u ≡ Some x
      → t ≤ u → u < t + n → test x ≡ true
  unfolding listed
  each-passes f t zero u x all at le lt = absurd (omega (arith, le, lt))
  each-passes f t (suc n) u x all at le lt = elim (cases_eq t u) [
    | inl is ↦ (
        let here : f t ≡ Some x = ap f is ∙ at in
        let now : list_all test (cons_option (Some x) (listed f (t + 1) n)) ≡ true =
        subst (λ (o : Option X). list_all test (cons_option o (listed f (t + 1) n)) ≡ true) here all in
        (and_parts (test x) (list_all test (listed f (t + 1) n)) now).0)
    | inr ne ↦ each-passes f (t + 1) n u x (rest (f t) (listed f (t + 1) n) all) at (omega (arith, le, ne))
        (omega (arith, lt))
  ]
    where
      rest : (o : Option X) (xs : List X) → list_all test (cons_option o xs) ≡ true → list_all test xs ≡ true
      rest None xs all = all
      rest (Some y) xs all = (and_parts (test y) (list_all test xs) all).1

  -- the first that passes goes
  pub first-gone : (f g : ℕ → Option X) (t n u : ℕ) (x : X) → f u ≡ Some x → test x ≡ true → g u ≡ None
      → ((v : ℕ) → v ≢ u → g v ≡ f v) → ((v : ℕ) (y : X) → v < u → f v ≡ Some y → test y ≡ false)
      → t ≤ u → u < t + n → listed g t n ≡ without_first test (listed f t n)
  unfolding listed
  first-gone f g t zero u x at passes gone others before le lt = absurd (omega (arith, le, lt))
  first-gone f g t (suc n) u x at passes gone others before le lt = elim (cases_eq t u) [
    | inl is ↦ (
        let here : f t ≡ Some x = ap f is ∙ at in
        let now : g t ≡ None = ap g is ∙ gone in
        let same : listed g (t + 1) n ≡ listed f (t + 1) n =
        listed-same f g (t + 1) n (λ v ge. others v (λ e. absurd (omega (arith, is, ge, e)))) in
        rw (now, here, same, passes) refl)
    | inr ne ↦ (
        let less : t < u = omega (arith, le, ne) in
        let rest = first-gone f g (t + 1) n u x at passes gone others before (omega (arith, less))
        (omega (arith, lt)) in
        rw (others t (λ e. ne e), rest) (later (f t) (listed f (t + 1) n) (λ y is. before t y less is)))
  ]
    where
      later : (o : Option X) (xs : List X) → ((y : X) → o ≡ Some y → test y ≡ false)
          → cons_option o (without_first test xs) ≡ without_first test (cons_option o xs)
      later None xs fails = refl
      later (Some y) xs fails = rw (fails y refl) refl

  -- where one that fails goes, those that pass stay
  pub passing-stay : (f g : ℕ → Option X) (t n u : ℕ) (x : X) → f u ≡ Some x → test x ≡ false → g u ≡ None
      → ((v : ℕ) → v ≢ u → g v ≡ f v) → filter test (listed g t n) ≡ filter test (listed f t n)
  unfolding listed
  passing-stay f g t zero u x at fails gone others = refl
  passing-stay f g t (suc n) u x at fails gone others = elim (cases_eq t u) [
    | inl is ↦ (
        let here : f t ≡ Some x = ap f is ∙ at in
        let now : g t ≡ None = ap g is ∙ gone in
        rw (now, here, fails) (passing-stay f g (t + 1) n u x at fails gone others))
    | inr ne ↦ rw (others t (λ e. ne e)) (more (f t) (listed g (t + 1) n) (listed f (t + 1) n)
        (passing-stay f g (t + 1) n u x at fails gone others))
  ]
    where
      more : (o : Option X) (xs ys : List X) → filter test xs ≡ filter test ys
          → filter test (cons_option o xs) ≡ filter test (cons_option o ys)
      more None xs ys same = same
      more (Some y) xs ys same = elim (cases_Bool (test y)) [
        | inl passes ↦ rw passes (ap (λ (l : List X). y ∷ l) same)
        | inr not_this ↦ rw not_this same
      ]

  -- where all pass, all stay
  pub all-stay : (f : ℕ → Option X) (t n : ℕ) → ((u : ℕ) (x : X) → f u ≡ Some x → test x ≡ true)
      → filter test (listed f t n) ≡ listed f t n
  unfolding listed
  all-stay f t zero each = refl
  all-stay f t (suc n) each = more (f t) (listed f (t + 1) n) (λ x at. each t x at) (all-stay f (t + 1) n each)
    where
      more : (o : Option X) (xs : List X) → ((x : X) → o ≡ Some x → test x ≡ true) → filter test xs ≡ xs
          → filter test (cons_option o xs) ≡ cons_option o xs
      more None xs is rest = rest
      more (Some x) xs is rest = rw (is x refl) (ap (λ (l : List X). x ∷ l) rest)
