-- A decimal number in a range: what `parse` reads of it, and that it has no separator in it.
use Rattle.std.proofs.Common.{◌≡◌, ℕ, ◌<◌, ◌≤◌, ◌^◌, true, false, cond, eqb, ltb, leb, ◌&&◌, List, length, get_or, Some, None, Ok, Err, decimal, refl, sym, ap, ◌∙◌, arith, rules, inl, inr, le-leb, lt-ltb, ne_eqb, true≢false, lit<}
use Rattle.std.proofs.lemmas.Bool.{cases_eq}
use Rattle.std.proofs.lemmas.Bool.Decides.{nat_tests}
use Rattle.std.proofs.lemmas.Fmt.{decimal_is_IsNumeral, decimal_digit, first_decimal}
use Rattle.std.proofs.lemmas.List.Elements.{All-from_get_or}
use Rattle.std.proofs.lemmas.List.Recursion.{and_at}
use Rattle.std.proofs.lemmas.List.Sums.{list_all-from_AllPass}
use Rattle.std.proofs.lemmas.Str.Parse.{IsNumeralModel, numerals_by_value, parse_digits, digit_at}
use Rattle.std.specs.Char.{is_ascii_digit}
use Rattle.std.specs.Int.{IsInRange}
use Rattle.std.specs.List.{list_all}
use Rattle.std.specs.Result.{OkIff}
use Rattle.std.specs.Str.Parse.{ParsesUnsigned, digits_value}
use Rattle.roam_address.specs.Decimals.{is_decimal, decimal_in}
use Rattle.roam_address.proofs.SplitLemmas.{Lacks}

own : IsNumeralModel (λ ds. list_all is_ascii_digit ds ≡ true) (digits_value 10)
own = numerals_by_value _ (search rules)

-- a text that isn't a decimal number is none in any range
pub decimal_in-not : (least most : ℕ) (text : List ℕ) → is_decimal text ≡ false → decimal_in least most text ≡ None
unfolding decimal_in
decimal_in-not least most text is_not = rw is_not

-- the digits of a decimal number
pub decimal_digits : (text : List ℕ) → is_decimal text ≡ true → (list_all is_ascii_digit text ≡ true)
    × (0 < length text)
unfolding is_decimal
decimal_digits text is = grind (arith, nat_tests)

-- what `parse` reads of a decimal number, looked at for its range
pub decimal_in-ok : (least most : ℕ) (text : List ℕ) (n : ℕ) → is_decimal text ≡ true →
    ParsesUnsigned {E = ℕ} 64 10 text (Ok n) →
    decimal_in least most text ≡ cond (leb least n && leb n most) (Some n) None
unfolding decimal_in
decimal_in-ok least most text n is read =
    let digits = decimal_digits text is in
    let value : OkIff {E = ℕ} (Ok n) ((0 < length text) × (digits_value 10 text < 2 ^ 64)) (digits_value 10 text) =
    parse_digits own {E = ℕ} 64 text (Ok n) read digits.0 in
    rw (is, value.1)

too_large : (least most v : ℕ) → most < v → cond (leb least v && leb v most) (Some v) None ≡ None
too_large least most v above = grind (arith, nat_tests)

-- a decimal number that `parse` finds too large is too large
pub decimal_in-err : (least most : ℕ) (text : List ℕ) → is_decimal text ≡ true → most < 2 ^ 64 →
    ParsesUnsigned {E = ℕ} 64 10 text (Err 0) → decimal_in least most text ≡ None
unfolding decimal_in
decimal_in-err least most text is small read =
    let digits = decimal_digits text is in
    let large : OkIff {T = ℕ} {E = ℕ} (Err 0) ((0 < length text)
    × (digits_value 10 text < 2 ^ 64)) (digits_value 10 text) =
    parse_digits own {E = ℕ} 64 text (Err 0) read digits.0 in
    let above : most < digits_value 10 text =
    omega (arith, λ (h : digits_value 10 text < 2 ^ 64). large (digits.1, h)) in
    rw is (too_large least most _ above)

decimal_is : (least most : ℕ) (text : List ℕ) (n : ℕ) → decimal_in least most text ≡ Some n → is_decimal text ≡ true
unfolding decimal_in
decimal_is least most text n is = grind (arith, nat_tests)

pub decimal_in-least : (least most : ℕ) (text : List ℕ) (n : ℕ) → decimal_in least most text ≡ Some n → least ≤ n
unfolding decimal_in
decimal_in-least least most text n is = grind (arith, nat_tests)

pub decimal_in-most : (least most : ℕ) (text : List ℕ) (n : ℕ) → decimal_in least most text ≡ Some n → n ≤ most
unfolding decimal_in
decimal_in-most least most text n is = grind (arith, nat_tests)

-- no separator that isn't a digit stands in it
pub decimal_lacks : (separator least most : ℕ) (text : List ℕ) (n : ℕ) → is_ascii_digit separator ≡ false →
    decimal_in least most text ≡ Some n → Lacks separator text
decimal_lacks separator least most text n apart is i within here =
    let digits = (decimal_digits text (decimal_is least most text n is)).0 in
    let digit = and_at (list_all is_ascii_digit) is_ascii_digit refl (λ _ _. refl) text i 0 within digits in
    true≢false (sym digit ∙ ap is_ascii_digit here ∙ apart)

digit_test : (c : ℕ) → IsInRange 48 57 c → is_ascii_digit c ≡ true
digit_test c h = grind (arith, nat_tests)

all_digits : (n : ℕ) → n < 2 ^ 64 → list_all is_ascii_digit (decimal n) ≡ true
all_digits n small =
    let digits = (decimal_is_IsNumeral n small).0.1 in
    list_all-from_AllPass is_ascii_digit (decimal n)
    (All-from_get_or (λ (c : ℕ). is_ascii_digit c ≡ true) (decimal n) 0
    (λ i within. digit_test (get_or (decimal n) i 0) (digit_at (decimal n) i digits within)))

no_leading_zero : (n : ℕ) → n < 2 ^ 64 → (eqb (get_or (decimal n) 0 0) 48 && ltb 1 (length (decimal n))) ≡ false
no_leading_zero n small =
    elim (cases_eq n 0) [
      | inl none ↦ rw (none, decimal_digit 0 (lit< tt))
      | inr some ↦ rw (ne_eqb (get_or (decimal n) 0 0) 48 (omega (arith, first_decimal n (omega arith) small)))
    ]

-- what is printed of a number in the range is the decimal number that it is
pub decimal_in-decimal : (least most n : ℕ) → least ≤ n → n ≤ most → n < 2 ^ 64 →
    decimal_in least most (decimal n) ≡ Some n
unfolding decimal_in is_decimal
decimal_in-decimal least most n low high small =
    let (numeral, value) = decimal_is_IsNumeral n small in
    rw (
      lt-ltb 0 (length (decimal n)) numeral.0,
      no_leading_zero n small,
      all_digits n small,
      value,
      le-leb least n low,
      le-leb n most high,
    ) refl
