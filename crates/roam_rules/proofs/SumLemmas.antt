-- Sums of what is counted at each place of some numbers.
use Rattle.std.proofs.Common.{◌≡◌, ◌≢◌, ℕ, zero, suc, ◌+◌, ◌<◌, ◌≤◌, ◌==◌, ◌&&◌, Bool, true, false, refl, ap, sym, ◌∙◌, arith, inl, inr, eqb-true}
use Rattle.std.specs.Prelude.{if◌then◌else◌}
use Rattle.std.proofs.lemmas.Bool.{cases_Bool, true≢false}
use Rattle.roam_pending.proofs.TestLemmas.{differs, same}
use Rattle.roam_rules.specs.Private.Sharing.{sum_below}

-- one where it holds
abbrev pub one_if : Bool → ℕ
one_if b = if b then 1 else 0

-- ---- sums

pub sum-none : (f : ℕ → ℕ) → sum_below 0 f ≡ 0
unfolding sum_below
sum-none f = refl

sum-suc : (n : ℕ) (f : ℕ → ℕ) → sum_below (suc n) f ≡ sum_below n f + f n
unfolding sum_below
sum-suc n f = refl

pub sum-more : (n : ℕ) (f : ℕ → ℕ) → sum_below (n + 1) f ≡ sum_below n f + f n
sum-more n f =
    let e : n + 1 ≡ suc n = omega arith in
    ap (λ (k : ℕ). sum_below k f) e ∙ sum-suc n f

sum-same : (n : ℕ) (f h : ℕ → ℕ) → ((i : ℕ) → i < n → f i ≡ h i) → sum_below n f ≡ sum_below n h
sum-same zero f h is = sum-none f ∙ sym (sum-none h)
sum-same (suc n) f h is =
    omega (
      arith,
      sum-suc n f,
      sum-suc n h,
      is n (omega arith),
      sum-same n f h (λ i lt. is i (omega (arith, lt))),
    )

sum-zeros : (n : ℕ) (f : ℕ → ℕ) → ((i : ℕ) → f i ≡ 0) → sum_below n f ≡ 0
sum-zeros zero f is = sum-none f
sum-zeros (suc n) f is = omega (arith, sum-suc n f, is n, sum-zeros n f is)

sum-both : (n : ℕ) (f h : ℕ → ℕ) → sum_below n (λ i. f i + h i) ≡ sum_below n f + sum_below n h
sum-both zero f h = omega (arith, sum-none (λ i. f i + h i), sum-none f, sum-none h)
sum-both (suc n) f h =
    omega (arith, sum-suc n (λ i. f i + h i), sum-suc n f, sum-suc n h, sum-both n f h)

-- one place alone
none-past : (m b : ℕ) (q : Bool) → m ≤ b → sum_below m (λ j. one_if (b == j && q)) ≡ 0
none-past zero b q past = sum-none (λ j. one_if (b == j && q))
none-past (suc m) b q past =
    let other : (b == m) ≡ false = differs b m (λ is. absurd (omega (arith, is, past))) in
    let here : one_if (b == m && q) ≡ 0 = rw other refl in
    omega (
      arith,
      sum-suc m (λ j. one_if (b == j && q)),
      here,
      none-past m b q (omega (arith, past)),
    )

one-alone : (m b : ℕ) (q : Bool) → b < m → sum_below m (λ j. one_if (b == j && q)) ≡ one_if q
one-alone zero b q within = absurd (omega (arith, within))
one-alone (suc m) b q within =
    elim (cases_Bool (b == m)) [
      | inl is ↦
          let here : one_if (b == m && q) ≡ one_if q = rw is refl in
          let at : b ≡ m = eqb-true b m is in
          omega (
            arith,
            sum-suc m (λ j. one_if (b == j && q)),
            here,
            none-past m b q (omega (arith, at)),
          )
      | inr other ↦
          let here : one_if (b == m && q) ≡ 0 = rw other refl in
          let below : b < m = let ne : b ≢ m = (λ is. absurd (true≢false (sym (same b m is) ∙ other))) in
          omega (arith, within, ne) in
          omega (arith, sum-suc m (λ j. one_if (b == j && q)), here, one-alone m b q below)
    ]

and-swap : (a b q : Bool) → ((a && b) && q) ≡ (b && (a && q))
and-swap true true q = refl
and-swap true false q = refl
and-swap false true q = refl
and-swap false false q = refl

-- one place in a table
one-in_table : (n m a b : ℕ) (q : Bool) → a < n → b < m →
    sum_below n (λ i. sum_below m (λ j. one_if ((a == i && b == j) && q))) ≡ one_if q
one-in_table n m a b q row column =
    sum-same n (λ i. sum_below m (λ j. one_if ((a == i && b == j) && q))) (λ i. one_if (a == i && q))
    (λ i lt.
    sum-same m (λ j. one_if ((a == i && b == j) && q)) (λ j. one_if (b == j && (a == i && q)))
    (λ j below. ap one_if (and-swap (a == i) (b == j) q))
    ∙ one-alone m b (a == i && q) column)
    ∙ one-alone n a q row

and-turn : (a b c q : Bool) → (((a && b) && c) && q) ≡ ((b && c) && (a && q))
and-turn true b c q = refl
and-turn false true true q = refl
and-turn false true false q = refl
and-turn false false c q = refl

-- ---- sums over servers, their ways and Identifiers

abbrev pub in_all : ℕ → ℕ → (ℕ → ℕ → ℕ → ℕ) → ℕ
in_all n m f = sum_below n (λ server. sum_below m (λ out. sum_below 256 (f server out)))

pub all-same : (n m : ℕ) (f h : ℕ → ℕ → ℕ → ℕ)
    → ((s o i : ℕ) → s < n → o < m → i < 256 → f s o i ≡ h s o i) → in_all n m f ≡ in_all n m h
all-same n m f h is =
    sum-same n (λ s. sum_below m (λ o. sum_below 256 (f s o))) (λ s. sum_below m (λ o. sum_below 256 (h s o)))
    (λ s server.
    sum-same m (λ o. sum_below 256 (f s o)) (λ o. sum_below 256 (h s o))
    (λ o way. sum-same 256 (f s o) (h s o) (λ i octet. is s o i server way octet)))

pub all-both : (n m : ℕ) (f h : ℕ → ℕ → ℕ → ℕ)
    → in_all n m (λ s o i. f s o i + h s o i) ≡ in_all n m f + in_all n m h
all-both n m f h =
    sum-same n (λ s. sum_below m (λ o. sum_below 256 (λ i. f s o i + h s o i)))
    (λ s. sum_below m (λ o. sum_below 256 (f s o)) + sum_below m (λ o. sum_below 256 (h s o)))
    (λ s server.
    sum-same m (λ o. sum_below 256 (λ i. f s o i + h s o i)) (λ o. sum_below 256 (f s o) + sum_below 256 (h s o))
    (λ o way. sum-both 256 (f s o) (h s o))
    ∙ sum-both m (λ o. sum_below 256 (f s o)) (λ o. sum_below 256 (h s o)))
    ∙ sum-both n (λ s. sum_below m (λ o. sum_below 256 (f s o))) (λ s. sum_below m (λ o. sum_below 256 (h s o)))

pub all-none : (n m : ℕ) (f : ℕ → ℕ → ℕ → ℕ) → ((s o i : ℕ) → f s o i ≡ 0) → in_all n m f ≡ 0
all-none n m f is =
    sum-zeros n (λ s. sum_below m (λ o. sum_below 256 (f s o)))
    (λ s. sum-zeros m (λ o. sum_below 256 (f s o)) (λ o. sum-zeros 256 (f s o) (is s o)))

-- one place in all
pub one-in_all : (n m a b c : ℕ) (q : Bool) → a < n → b < m → c < 256
    → in_all n m (λ s o i. one_if (((a == s && b == o) && c == i) && q)) ≡ one_if q
one-in_all n m a b c q server way octet =
    sum-same n (λ s. sum_below m (λ o. sum_below 256 (λ i. one_if (((a == s && b == o) && c == i) && q))))
    (λ s. one_if (a == s && q))
    (λ s lt.
    sum-same m (λ o. sum_below 256 (λ i. one_if (((a == s && b == o) && c == i) && q)))
    (λ o. sum_below 256 (λ i. one_if ((b == o && c == i) && (a == s && q))))
    (λ o lt'.
    sum-same 256 (λ i. one_if (((a == s && b == o) && c == i) && q))
    (λ i. one_if ((b == o && c == i) && (a == s && q)))
    (λ i lt''. ap one_if (and-turn (a == s) (b == o) (c == i) q)))
    ∙ one-in_table m 256 b c (a == s && q) way octet)
    ∙ one-alone n a q server
