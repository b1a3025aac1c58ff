-- The events that aren't lost, with one event more.
use Rattle.std.proofs.Common.{◌≡◌, ℕ, ◌+◌, ◌<◌, ◌≤◌, Bool, true, false, List, [], ◌∷◌, ◌++◌, length, refl, ap, ◌∙◌, arith}
use Rattle.std.specs.Prelude.{◌==◌, ◌||◌, if◌then◌else◌}
use Rattle.std.specs.List.{list_any, AllByRecursion}
use Rattle.std.proofs.lemmas.List.{append-nil}
use Rattle.std.proofs.lemmas.Bool.Decides.{nat_tests}
use Rattle.roam_core.specs.Events.{PlainEvent, kept, kept_from}
use Rattle.roam_core.specs.Runs.{AreRising, ArePlaces}

-- each lost place is below n
abbrev Below : ℕ → List ℕ → Type 0
Below n lost = AllByRecursion (λ l. l < n) lost

Below-more : (n : ℕ) (lost : List ℕ) → Below n lost → Below (n + 1) lost
Below-more n [] below = tt
Below-more n (l ∷ lost) below = (omega (arith, below.0), Below-more n lost below.1)

Below-append : (n : ℕ) (lost : List ℕ) → Below n lost → Below (n + 1) (lost ++ n ∷ [])
Below-append n [] below = (omega arith, tt)
Below-append n (l ∷ lost) below = (omega (arith, below.0), Below-append n lost below.1)

-- a place above all others comes after them
all-above : (l n : ℕ) (lost : List ℕ) → l < n → AllByRecursion (λ q. l < q) lost →
    AllByRecursion (λ q. l < q) (lost ++ n ∷ [])
all-above l n [] lt above = (lt, tt)
all-above l n (x ∷ lost) lt above = (above.0, all-above l n lost lt above.1)

rising-append : (n : ℕ) (lost : List ℕ) → Below n lost → AreRising lost → AreRising (lost ++ n ∷ [])
rising-append n [] below rising = (tt, tt)
rising-append n (l ∷ lost) below rising =
    (all-above l n lost below.0 rising.0, rising-append n lost below.1 rising.1)

-- the places of so many events, with one event more: it isn't lost, or it is
pub places-more : (n : ℕ) (lost : List ℕ) → ArePlaces n lost → ArePlaces (n + 1) lost
places-more n lost are = record { there = Below-more n lost are.there; rising = are.rising }

pub places-append : (n : ℕ) (lost : List ℕ) → ArePlaces n lost → ArePlaces (n + 1) (lost ++ n ∷ [])
places-append n lost are = record {
  there = Below-append n lost are.there;
  rising = rising-append n lost are.there are.rising;
}

pub absent : (n : ℕ) (lost : List ℕ) → Below n lost → list_any (λ l. l == n) lost ≡ false
absent n [] below = refl
absent n (l ∷ lost) below =
    let lt : l < n = below.0 in grind (arith, nat_tests, absent n lost below.1)

pub present : (n : ℕ) (lost : List ℕ) → list_any (λ l. l == n) (lost ++ n ∷ []) ≡ true
present n [] = grind (arith, nat_tests)
present n (l ∷ lost) = grind (arith, nat_tests, present n lost)

-- a place that is lost makes no other one lost
pub other_place : (i n : ℕ) (lost : List ℕ) → i < n →
    list_any (λ l. l == i) (lost ++ n ∷ []) ≡ list_any (λ l. l == i) lost
other_place i n [] lt = grind (arith, nat_tests)
other_place i n (l ∷ lost) lt = ap (λ b. (l == i) || b) (other_place i n lost lt)

-- a later place that is lost changes nothing before it
later : (i n : ℕ) (lost : List ℕ) (es : List PlainEvent) → i + length es ≤ n →
    kept_from i (lost ++ n ∷ []) es ≡ kept_from i lost es
later i n lost [] le = refl
later i n lost (e ∷ es) le =
    rw (other_place i n lost (omega arith), later (i + 1) n lost es (omega arith)) refl

appended : (b : Bool) (xs ys zs : List PlainEvent) (x : PlainEvent) → ys ≡ xs ++ zs →
    (if b then ys else x ∷ ys) ≡ (if b then xs else x ∷ xs) ++ zs
appended true xs ys zs x h = h
appended false xs ys zs x h = ap (λ (l : List PlainEvent). x ∷ l) h

one_more : (i n : ℕ) (lost : List ℕ) (es : List PlainEvent) (e : PlainEvent) → n ≡ i + length es →
    kept_from i lost (es ++ e ∷ []) ≡ kept_from i lost es ++ (if list_any (λ l. l == n) lost then [] else e ∷ [])
one_more i n lost [] e h = let same : n ≡ i = omega arith in rw same refl
one_more i n lost (x ∷ es) e h =
    appended (list_any (λ l. l == i) lost) (kept_from (i + 1) lost es) (kept_from (i + 1) lost (es ++ e ∷ []))
    (if list_any (λ l. l == n) lost then [] else e ∷ []) x (one_more (i + 1) n lost es e (omega arith))

-- one event more that was answered
pub kept-done : (n : ℕ) (lost : List ℕ) (es : List PlainEvent) (e : PlainEvent) → n ≡ length es → ArePlaces n lost →
    kept lost (es ++ e ∷ []) ≡ kept lost es ++ e ∷ []
kept-done n lost es e h are = one_more 0 n lost es e (omega arith) ∙ rw (absent n lost are.there) refl

-- one event more that was lost
pub kept-lost : (n : ℕ) (lost : List ℕ) (es : List PlainEvent) (e : PlainEvent) → n ≡ length es →
    kept (lost ++ n ∷ []) (es ++ e ∷ []) ≡ kept lost es
kept-lost n lost es e h =
    let more : kept (lost ++ n ∷ []) (es ++ e ∷ []) ≡ kept (lost ++ n ∷ []) es ++ [] =
    one_more 0 n (lost ++ n ∷ []) es e (omega arith) ∙ rw (present n lost) refl in
    more ∙ append-nil (kept (lost ++ n ∷ []) es) ∙ later 0 n lost es (omega arith)
