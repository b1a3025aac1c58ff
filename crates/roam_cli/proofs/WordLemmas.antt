-- The texts of three words, and of four.
use Rattle.std.proofs.Common.{◌≡◌, ◌<◌, ◌≤◌, ℕ, List, [], ◌∷◌, map, length, get_or, refl, arith}

pub three-texts : {S : Type 0} (text : S → List ℕ) (words : List S) (a b c d e f : S) (first second third : List ℕ)
    → 3 ≤ length words → length words < 4
    → a ≡ get_or words 0 d → b ≡ get_or words 1 e → c ≡ get_or words 2 f
    → first ≡ text a → second ≡ text b → third ≡ text c
    → first ∷ second ∷ third ∷ [] ≡ map text words
three-texts text [] a b c d e f first second third least below is_a is_b is_c of_a of_b of_c = absurd (omega arith)
three-texts text (x ∷ []) a b c d e f first second third least below is_a is_b is_c of_a of_b of_c =
    absurd (omega arith)
three-texts text (x ∷ y ∷ []) a b c d e f first second third least below is_a is_b is_c of_a of_b of_c =
    absurd (omega arith)
three-texts text (x ∷ y ∷ z ∷ []) a b c d e f first second third least below is_a is_b is_c of_a of_b of_c =
    rw (of_a, of_b, of_c, is_a, is_b, is_c) refl
three-texts text (x ∷ y ∷ z ∷ w ∷ more) a b c d e f first second third least below is_a is_b is_c of_a of_b of_c =
    absurd (omega arith)

pub four-texts : {S : Type 0} (text : S → List ℕ) (words : List S) (a b c d e f g h : S)
    (first second third fourth : List ℕ)
    → 4 ≤ length words → length words < 5
    → a ≡ get_or words 0 e → b ≡ get_or words 1 f → c ≡ get_or words 2 g → d ≡ get_or words 3 h
    → first ≡ text a → second ≡ text b → third ≡ text c → fourth ≡ text d
    → first ∷ second ∷ third ∷ fourth ∷ [] ≡ map text words
four-texts text (x ∷ y ∷ z ∷ w ∷ []) a b c d e f g h first second third fourth least below is_a is_b is_c is_d
    of_a of_b of_c of_d = rw (of_a, of_b, of_c, of_d, is_a, is_b, is_c, is_d) refl
four-texts text [] a b c d e f g h first second third fourth least below is_a is_b is_c is_d of_a of_b of_c of_d =
    absurd (omega arith)
four-texts text (x ∷ []) a b c d e f g h first second third fourth least below is_a is_b is_c is_d of_a of_b of_c of_d =
    absurd (omega arith)
four-texts text (x ∷ y ∷ []) a b c d e f g h first second third fourth least below is_a is_b is_c is_d
    of_a of_b of_c of_d = absurd (omega arith)
four-texts text (x ∷ y ∷ z ∷ []) a b c d e f g h first second third fourth least below is_a is_b is_c is_d
    of_a of_b of_c of_d = absurd (omega arith)
four-texts text (x ∷ y ∷ z ∷ w ∷ v ∷ more) a b c d e f g h first second third fourth least below is_a is_b is_c is_d
    of_a of_b of_c of_d = absurd (omega arith)
