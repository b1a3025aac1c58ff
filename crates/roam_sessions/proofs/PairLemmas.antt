-- Two lists of what numbers have, of which one has less.
use Rattle.std.proofs.Common.{◌≡◌, ◌⊎◌, ℕ, zero, suc, ◌+◌, ◌<◌, ◌≤◌, Bool, false, List, [], ◌∷◌, ◌++◌, length, Option, Some, None, refl, sym, ap, ◌∙◌, subst, inl, inr, arith}
use Rattle.std.specs.Prelude.{IsSome, filter, not}
use Rattle.std.specs.List.{cons_option}
use Rattle.std.proofs.lemmas.Bool.{cases_Bool, cases_eq}
use Rattle.std.proofs.lemmas.List.Elements.{filter-append}
use Rattle.roam_wire.specs.Numbered.{PutsAt, listed, tickets_end}
use Rattle.roam_sessions.specs.Private.Tickets.{all_listed}
use Rattle.roam_sessions.proofs.ListedLemmas.{listed-same}

module _ {X : Type 0} (f g : ℕ → Option X) where
  -- as many numbers have something, or fewer
  pub listed-fewer : (t n : ℕ) → ((u : ℕ) → (g u ≡ f u) ⊎ (g u ≡ None)) → length (listed g t n) ≤ length (listed f t n)
  unfolding listed
  listed-fewer t zero each = omega arith
  listed-fewer t (suc n) each =
      one (g t) (f t) (listed g (t + 1) n) (listed f (t + 1) n) (each t) (listed-fewer (t + 1) n each)
    where
      one : (o p : Option X) (xs ys : List X) → (o ≡ p) ⊎ (o ≡ None) → length xs ≤ length ys
          → length (cons_option o xs) ≤ length (cons_option p ys)
      one None None xs ys is le = le
      one None (Some y) xs ys is le = omega (arith, le)
      one (Some x) None xs ys is le = absurd (elim is [ inl a ↦ cc a | inr b ↦ cc b ])
      one (Some x) (Some y) xs ys is le = omega (arith, le)

  -- and where one of them has nothing any more, fewer
  pub listed-less : (t n u : ℕ) → ((v : ℕ) → (g v ≡ f v) ⊎ (g v ≡ None)) → IsSome (f u) → g u ≡ None → t ≤ u
      → u < t + n → length (listed g t n) + 1 ≤ length (listed f t n)
  unfolding listed
  listed-less t zero u each held gone le lt = absurd (omega (arith, le, lt))
  listed-less t (suc n) u each held gone le lt = elim (cases_eq t u) [
    | inl is ↦ here (g t) (f t) (listed g (t + 1) n) (listed f (t + 1) n)
        (ap g is ∙ gone) (subst (λ (v : ℕ). IsSome (f v)) (sym is) held) (listed-fewer (t + 1) n each)
    | inr ne ↦ there (g t) (f t) (listed g (t + 1) n) (listed f (t + 1) n) (each t)
        (listed-less (t + 1) n u each held gone (omega (arith, le, ne)) (omega (arith, lt)))
  ]
    where
      here : (o p : Option X) (xs ys : List X) → o ≡ None → IsSome p → length xs ≤ length ys
          → length (cons_option o xs) + 1 ≤ length (cons_option p ys)
      here None (Some y) xs ys is some le = omega (arith, le)
      here None None xs ys is some le = absurd (cc some)
      here (Some x) p xs ys is some le = absurd (cc is)

      there : (o p : Option X) (xs ys : List X) → (o ≡ p) ⊎ (o ≡ None) → length xs + 1 ≤ length ys
          → length (cons_option o xs) + 1 ≤ length (cons_option p ys)
      there None None xs ys is le = le
      there None (Some y) xs ys is le = omega (arith, le)
      there (Some x) None xs ys is le = absurd (elim is [ inl a ↦ cc a | inr b ↦ cc b ])
      there (Some x) (Some y) xs ys is le = omega (arith, le)

  -- a number's thing is left out, or it fails a test: those that pass are the same
  pub filter-listed : (test : X → Bool) (t n : ℕ)
      → ((u : ℕ) → (g u ≡ f u) ⊎ (filter test (cons_option (g u) []) ≡ [] × (filter test (cons_option (f u) []) ≡ [])))
      → filter test (listed g t n) ≡ filter test (listed f t n)
  unfolding listed
  filter-listed test t zero each = refl
  filter-listed test t (suc n) each =
      one (g t) (f t) (listed g (t + 1) n) (listed f (t + 1) n) (each t) (filter-listed test (t + 1) n each)
    where
      apart : (o : Option X) (xs : List X) → cons_option o xs ≡ cons_option o [] ++ xs
      apart None xs = refl
      apart (Some x) xs = refl

      none : (o : Option X) (xs : List X) → filter test (cons_option o []) ≡ []
          → filter test (cons_option o xs) ≡ filter test xs
      none o xs is =
          ap (filter test) (apart o xs) ∙ filter-append test (cons_option o []) xs
          ∙ ap (λ (l : List X). l ++ filter test xs) is

      one : (o p : Option X) (xs ys : List X)
          → (o ≡ p) ⊎ (filter test (cons_option o []) ≡ [] × (filter test (cons_option p []) ≡ []))
          → filter test xs ≡ filter test ys → filter test (cons_option o xs) ≡ filter test (cons_option p ys)
      one o p xs ys is rest = elim is [
        | inl same ↦ (
            ap (filter test) (apart o xs) ∙ filter-append test (cons_option o []) xs
            ∙ ap (λ (l : List X). filter test (cons_option o []) ++ l) rest
            ∙ ap (λ (w : Option X). filter test (cons_option w []) ++ filter test ys) same
            ∙ sym (filter-append test (cons_option p []) ys) ∙ sym (ap (filter test) (apart p ys)))
        | inr both ↦ none o xs both.0 ∙ rest ∙ sym (none p ys both.1)
      ]

-- those that pass, and those that don't
pub both-lengths : {X : Type 0} (p : X → Bool) (xs : List X)
    → length (filter (λ x. not (p x)) xs) + length (filter p xs) ≡ length xs
both-lengths p [] = refl
both-lengths p (x ∷ xs) = elim (cases_Bool (p x)) [
  | inl passes ↦ rw passes (omega (arith, both-lengths p xs))
  | inr fails ↦ rw fails (omega (arith, both-lengths p xs))
]

pub fails-alone : {X : Type 0} (test : X → Bool) (x : X) → test x ≡ false → filter test (x ∷ []) ≡ []
fails-alone test x fails = rw fails refl

-- one that had nothing goes
pub closed-goes : {X : Type 0} (f g : ℕ → Option X) (t : ℕ) → PutsAt f g t None → f t ≡ None
    → all_listed g ≡ all_listed f
closed-goes f g t goes closed = listed-same f g 0 tickets_end (λ u le. elim (cases_eq u t) [
  | inl is ↦ ap g is ∙ goes.changed ∙ sym (ap f is ∙ closed)
  | inr ne ↦ goes.others u ne
])

-- what is there once one went was there
pub goes-was : {X : Type 0} (f g : ℕ → Option X) (t u : ℕ) (x : X) → PutsAt f g t None → g u ≡ Some x → f u ≡ Some x
goes-was f g t u x goes at = elim (cases_eq u t) [
  | inl is ↦ absurd (let k : g u ≡ None = ap g is ∙ goes.changed in cc (k, at))
  | inr ne ↦ sym (goes.others u ne) ∙ at
]
