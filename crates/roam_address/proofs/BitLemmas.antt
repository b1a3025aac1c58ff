-- Equal leftmost bits are equal bits at each place.
use Rattle.std.proofs.Common.{◌≡◌, ℕ, zero, suc, ◌+◌, ◌-◌, ◌*◌, ◌/◌, ◌%◌, ◌<◌, ◌≤◌, ◌^◌, sym, ap, ◌∙◌, arith, inl, inr}
use Rattle.std.proofs.lemmas.Bool.{cases_eq}
use Rattle.std.proofs.lemmas.Nat.{shr-shr, mod-pow-add, shr_below}
use Rattle.std.proofs.Math.Nat.{mod-eq_of_lt}

-- the leftmost bits of a number of w bits, so many of them, and the bit at a place
abbrev pub first_bits : ℕ → ℕ → ℕ → ℕ
first_bits w n l = n / 2 ^ (w - l) % 2 ^ l

abbrev pub bit_at : ℕ → ℕ → ℕ → ℕ
bit_at w n k = n / 2 ^ (w - 1 - k) % 2

-- one more bit
one_more : (w n l : ℕ) → l < w → first_bits w n (suc l) ≡ first_bits w n l * 2 + bit_at w n l
one_more w n l inside =
    let q = n / 2 ^ (w - 1 - l) in
    let place : w - suc l ≡ w - 1 - l = omega arith in
    let above : w - 1 - l + 1 ≡ w - l = omega (arith, inside) in
    let half : q / 2 ^ 1 ≡ n / 2 ^ (w - l) = shr-shr n (w - 1 - l) 1 ∙ ap (λ k. n / 2 ^ k) above in
    let length : suc l ≡ l + 1 = omega arith in
    ap (λ k. n / 2 ^ k % 2 ^ suc l) place ∙ ap (λ k. q % 2 ^ k) length ∙ mod-pow-add q l 1
    ∙ ap (λ x. x % 2 ^ l * 2 ^ 1 + q % 2 ^ 1) half

module _ (w a b : ℕ) where
  -- equal at each place
  pub equal_bits : (l : ℕ) → l ≤ w → ((k : ℕ) → k < l → bit_at w a k ≡ bit_at w b k) →
      first_bits w a l ≡ first_bits w b l
  equal_bits zero fits each = omega arith
  equal_bits (suc l) fits each =
      let rest = equal_bits l (omega (arith, fits)) (λ k below. each k (omega (arith, below))) in
      let last = each l (omega arith) in
      one_more w a l (omega (arith, fits)) ∙ ap (λ x. x * 2 + bit_at w a l) rest
      ∙ ap (λ x. first_bits w b l * 2 + x) last ∙ sym (one_more w b l (omega (arith, fits)))

  halves : (x y c d : ℕ) → x * 2 + c ≡ y * 2 + d → c < 2 → d < 2 → (x ≡ y) × (c ≡ d)
  halves x y c d same low high = (omega arith, omega arith)

  -- and each place of equal ones
  pub each_bit : (l : ℕ) → l ≤ w → first_bits w a l ≡ first_bits w b l →
      (k : ℕ) → k < l → bit_at w a k ≡ bit_at w b k
  each_bit zero fits same k below = absurd (omega (arith, below))
  each_bit (suc l) fits same k below =
      let inside : l < w = omega (arith, fits) in
      let parts = halves (first_bits w a l) (first_bits w b l) (bit_at w a l) (bit_at w b l)
      (sym (one_more w a l inside) ∙ same ∙ one_more w b l inside) (omega arith) (omega arith) in
      elim (cases_eq k l) [
        | inl here ↦ rw here parts.1
        | inr other ↦ each_bit l (omega (arith, fits)) parts.0 k (omega (arith, below, other))
      ]

-- what is above the lowest bits of a number is its leftmost ones
pub all_above : (w n l : ℕ) → l ≤ w → n < 2 ^ w → n / 2 ^ (w - l) ≡ first_bits w n l
all_above w n l fits below =
    let both : l + (w - l) ≡ w = omega (arith, fits) in
    sym (mod-eq_of_lt (shr_below n l (w - l) (rw both below)))
