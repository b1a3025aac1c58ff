-- A text's parts.
use Rattle.std.proofs.Common.{◌≡◌, ℕ, ◌<◌, true, false, eqb, List, [], ◌∷◌, length, get_or, Option, Some, None, MatchOption, Bor, refl, sym, ap, arith}
use Rattle.std.proofs.lemmas.Bool.Decides.{nat_tests}
use Rattle.std.proofs.lemmas.Grind.{common_steps}
use Rattle.std.proofs.lemmas.List.Splits.{slice_split_none, slice_split_first, join_with_byte-slice_split, length-slice_split}
use Rattle.std.proofs.lemmas.List.Recursion.{and_at}
use Rattle.std.proofs.lemmas.Str.Pattern.{IsSplitOnceResult, split_parts, split_once_first}
use Rattle.std.specs.Char.{is_ascii_digit}
use Rattle.std.specs.List.{list_all, All}
use Rattle.roam_address.specs.Decimals.{is_decimal, decimal_in}
use Rattle.roam_address.proofs.DecimalLemmas.{decimal_digits}
use Rattle.roam_conf.specs.Texts.{parts, vendor_kind, vendor_from}

-- an octet of the text, told apart from the separator by a test
other_octet : (separator : ℕ) (text : List ℕ) (k d : ℕ) → k < length text → (get_or text k 0 ≡ separator → ⊥) →
    eqb (get_or text k d) separator ≡ false
other_octet separator text k d within differs = grind (arith, nat_tests, common_steps)

-- the parts round the first separator, as `split_once` cuts there
pub parts-cut : (separator : ℕ) (text : List ℕ) (r : Option (Bor (List ℕ) × Bor (List ℕ))) →
    IsSplitOnceResult separator text r → separator < 128 →
    MatchOption r (parts separator text ≡ text ∷ [])
    (λ cut. parts separator text ≡ cut.0.now ∷ parts separator cut.1.now)
unfolding parts
parts-cut separator text None cut ascii =
    let absent = split_parts separator text None cut ascii in
    slice_split_none _ text (λ k d within. other_octet separator text k d within (absent k within))
parts-cut separator text (Some x) cut ascii =
    let first = split_once_first separator text (Some x) cut ascii in
    rw (first.1, first.2) (slice_split_first _ text 0 first.0)

-- a text without a separator is its one part
pub one_part : (separator : ℕ) (text part : List ℕ) → parts separator text ≡ part ∷ [] → part ≡ text
unfolding parts
one_part separator text part alone = rw alone at (join_with_byte-slice_split separator text)

decimal_is : (least most : ℕ) (text : List ℕ) (n : ℕ) → decimal_in least most text ≡ Some n → is_decimal text ≡ true
unfolding decimal_in
decimal_is least most text n is = grind (arith, nat_tests)

apart_from : (separator octet : ℕ) → is_ascii_digit separator ≡ false → is_ascii_digit octet ≡ true →
    eqb octet separator ≡ false
apart_from separator octet apart digit = grind (arith, nat_tests)

digits_apart : (separator : ℕ) (text : List ℕ) → is_ascii_digit separator ≡ false →
    list_all is_ascii_digit text ≡ true → All (λ octet. eqb octet separator ≡ false) text
digits_apart separator text apart digits = λ k d within.
    apart_from separator (get_or text k d) apart
    (and_at (list_all is_ascii_digit) is_ascii_digit refl (λ _ _. refl) text k d within digits)

-- a decimal number is one part
pub decimal_part : (separator least most : ℕ) (text : List ℕ) (n : ℕ) → is_ascii_digit separator ≡ false →
    decimal_in least most text ≡ Some n → parts separator text ≡ text ∷ []
unfolding parts
decimal_part separator least most text n apart is =
    slice_split_none _ text (digits_apart separator text apart
    (decimal_digits text (decimal_is least most text n is)).0)

-- a text has one part at least
some_part : (separator : ℕ) (text : List ℕ) → parts separator text ≡ [] → ⊥
unfolding parts
some_part separator text none =
    absurd (omega (arith, ap length none, length-slice_split (λ octet. eqb octet separator) text))

no_kind : (vendor : Option ℕ) → vendor_kind vendor None ≡ None
no_kind None = refl
no_kind (Some x) = refl

vendor_from_at : (vendor kind : List ℕ) (number : Option ℕ) (rest : List (List ℕ)) → decimal_in 1 255 kind ≡ number →
    parts 46 kind ≡ rest → vendor_from (vendor ∷ rest) ≡ vendor_kind (decimal_in 0 16777215 vendor) number
vendor_from_at vendor kind (Some n) rest is cut = rw (← cut, decimal_part 46 1 255 kind n refl is, is)
vendor_from_at vendor kind None [] is cut = absurd (some_part 46 kind cut)
vendor_from_at vendor kind None (x ∷ []) is cut = rw (one_part 46 kind x cut, is)
vendor_from_at vendor kind None (x ∷ y ∷ more) is cut = sym (no_kind _)

-- what follows the vendor's dot is the type or none
pub vendor_from_parts : (vendor kind : List ℕ) →
    vendor_from (vendor ∷ parts 46 kind) ≡ vendor_kind (decimal_in 0 16777215 vendor) (decimal_in 1 255 kind)
vendor_from_parts vendor kind = vendor_from_at vendor kind _ _ refl refl
