-- A text cut at the last separator.
use Rattle.std.proofs.Common.{◌≡◌, ◌≢◌, ℕ, zero, suc, ◌+◌, ◌<◌, ◌≤◌, cond, eqb, List, [], ◌∷◌, ◌++◌, length, get_or, take, drop, take-append-drop, Option, Some, None, MatchOption, Bor, refl, sym, ap, ◌∙◌, subst, arith, inl, inr, eq-eqb, ne_eqb}
use Rattle.std.proofs.lemmas.Bool.{cases_eq}
use Rattle.std.proofs.lemmas.List.{drop_more}
use Rattle.std.proofs.lemmas.Str.{len_utf8_ascii}
use Rattle.std.proofs.lemmas.Str.Pattern.{NoCharPasses-char}
use Rattle.std.specs.Net.Reader.{map_or}
use Rattle.std.specs.Str.Pattern.{RFindsChar}
use Rattle.roam_address.specs.Texts.{cut_last}

-- no octet is c
abbrev pub Lacks : ℕ → List ℕ → Type 0
Lacks c text = (i : ℕ) → i < length text → get_or text i 0 ≢ c

-- what `rsplit_once` answers at an ASCII character: its clause
abbrev pub IsLastCut : ℕ → List ℕ → Option (Bor (List ℕ) × Bor (List ℕ)) → Type 0
IsLastCut c text r =
    MatchOption r (RFindsChar c text None)
    (λ x. (i : ℕ) × (j : ℕ) × RFindsChar c text (Some (i, j)) × (x.0.now ≡ take i text) × (x.1.now ≡ drop j text)
    × (i ≤ j) × (length x.0.now ≡ i) × (length x.1.now + j ≡ length text))

pub last_cut : (c : ℕ) (text : List ℕ) (r : Option (Bor (List ℕ) × Bor (List ℕ))) → IsLastCut c text r → c < 128 →
    MatchOption r (Lacks c text) (λ x. (text ≡ x.0.now ++ c ∷ x.1.now) × Lacks c x.1.now)
last_cut c text None none ascii = λ i within. NoCharPasses-char c text i none ascii within
last_cut c text (Some x) cut ascii =
    let i = cut.0 in
    let j = cut.1 in
    let next : j ≡ i + 1 = omega (arith, cut.2.1.ends, len_utf8_ascii c ascii) in
    let inside : i < length text = omega (arith, cut.7, next) in
    let behind : x.1.now ≡ drop (i + 1) text = cut.4 ∙ ap (λ k. drop k text) next in
    let split : text ≡ take i text ++ c ∷ drop (i + 1) text =
    sym (take-append-drop i text) ∙ ap (λ l. take i text ++ l)
    (drop_more text i 0 inside ∙ ap (λ b. b ∷ drop (i + 1) text) (cut.2.1.byte ascii)) in (
      split ∙ (λ k. sym cut.3 k ++ c ∷ sym behind k),
      subst (Lacks c) (sym cut.4) (λ k within. NoCharPasses-char c (drop j text) k cut.2.0 ascii within),
    )

-- ## The same as a function

parts_from : (c x : ℕ) (rest : List ℕ) (r : Option (List ℕ × List ℕ)) →
    MatchOption r (Lacks c rest) (λ cut. (rest ≡ cut.0 ++ c ∷ cut.1) × Lacks c cut.1) →
    MatchOption {T = List ℕ × List ℕ}
    (map_or r (cond (eqb x c) (Some ([], rest)) None) (λ cut. Some (x ∷ cut.0, cut.1)))
    (Lacks c (x ∷ rest)) (λ cut. (x ∷ rest ≡ cut.0 ++ c ∷ cut.1) × Lacks c cut.1)
parts_from c x rest None lacks =
    elim (cases_eq x c) [
      | inl here ↦ (
          let found : (x ∷ rest ≡ c ∷ rest) × Lacks c rest = ((λ i. here i ∷ rest), lacks) in
          rw (eq-eqb x c here) found)
      | inr other ↦ rw (ne_eqb x c other) (lacks_more c x rest other lacks)
    ]
  where
    lacks_more : (c x : ℕ) (rest : List ℕ) → x ≢ c → Lacks c rest → Lacks c (x ∷ rest)
    lacks_more c x rest other lacks zero within = other
    lacks_more c x rest other lacks (suc i) within = lacks i (omega (arith, within))
parts_from c x rest (Some cut) is = ((λ i. x ∷ is.0 i), is.1)

pub cut_last-parts : (c : ℕ) (text : List ℕ) →
    MatchOption (cut_last c text) (Lacks c text) (λ cut. (text ≡ cut.0 ++ c ∷ cut.1) × Lacks c cut.1)
cut_last-parts c [] = λ i within. absurd (omega (arith, within))
cut_last-parts c (x ∷ rest) = parts_from c x rest (cut_last c rest) (cut_last-parts c rest)

-- a list with an element in it doesn't lack it
pub not_lacking : (c : ℕ) (xs ys : List ℕ) → Lacks c (xs ++ c ∷ ys) → ⊥
not_lacking c [] ys lacks = lacks 0 (omega arith) refl
not_lacking c (x ∷ xs) ys lacks = not_lacking c xs ys (λ i within here. lacks (suc i) (omega (arith, within)) here)

-- a list is cut at the last separator in one way
pub one_cut : (c : ℕ) (xs ys zs ws : List ℕ) → Lacks c ys → Lacks c ws → xs ++ c ∷ ys ≡ zs ++ c ∷ ws →
    (xs ≡ zs) × (ys ≡ ws)
one_cut c [] ys [] ws none other same = (refl, ap (drop 1) same)
one_cut c [] ys (z ∷ zs) ws none other same =
    absurd (not_lacking c zs ws (subst (Lacks c) (ap (drop 1) same) none))
one_cut c (x ∷ xs) ys [] ws none other same =
    absurd (not_lacking c xs ys (subst (Lacks c) (sym (ap (drop 1) same)) other))
one_cut c (x ∷ xs) ys (z ∷ zs) ws none other same =
    let rest = one_cut c xs ys zs ws none other (ap (drop 1) same) in
    let first : x ≡ z = ap (λ l. get_or l 0 0) same in
    ((λ i. first i ∷ rest.0 i), rest.1)
