-- Which peers' tables are other ones, looked for one after the other.
use Rattle.std.proofs.Common.{◌≡◌, ◌⊎◌, ℕ, ◌+◌, ◌<◌, ◌≤◌, Bool, true, false, List, [], ◌∷◌, ◌++◌, refl, sym, subst, arith, eqb, inl, inr, length}
use Rattle.std.specs.List.{AllByRecursion}
use Rattle.std.proofs.lemmas.Bool.Decides.{nat_tests}
use Rattle.roam_conf.specs.Config.{PeerView}
use Rattle.roam_pending.specs.ListLaws.{IsIn}
use Rattle.roam_pending.proofs.TestLemmas.{all-append, all-weaker}
use Rattle.roam_reload.specs.Reload.{IsKeptAt, KeepsPeers}
use Rattle.roam_reload.proofs.PeerLemmas.{all_kept}
use Rattle.roam_migrate.specs.Carrying.{AreChanged, AreRising, Unless, noted}

-- what holds of the first so many peers
pub record AreChangedBelow (old new : List PeerView) (n : ℕ) (changed : List ℕ) : Type 0 where
  pub told :
      (peer : ℕ) → peer < n
      → IsIn peer changed ⊎ IsKeptAt old new peer
  pub rising : AreRising changed
  pub below : AllByRecursion (λ m. m < n) changed

pub none-changed : (old new : List PeerView) → AreChangedBelow old new 0 []
none-changed old new = record { told = λ peer less. absurd (omega (arith, less)); rising = tt; below = tt }

in-front : (peer : ℕ) (xs ys : List ℕ) → IsIn peer xs → IsIn peer (xs ++ ys)
in-front peer [] ys at = absurd at
in-front peer (x ∷ xs) ys (inl is) = inl is
in-front peer (x ∷ xs) ys (inr at) = inr (in-front peer xs ys at)

in-last : (peer : ℕ) (xs : List ℕ) → IsIn peer (xs ++ peer ∷ [])
in-last peer [] = inl refl
in-last peer (x ∷ xs) = inr (in-last peer xs)

rises-on : (n : ℕ) (xs : List ℕ) → AreRising xs → AllByRecursion (λ m. m < n) xs → AreRising (xs ++ n ∷ [])
rises-on n [] rising below = (tt, tt)
rises-on n (x ∷ xs) rising below =
    (all-append (λ m. x < m) xs (n ∷ []) rising.0 (below.0, tt), rises-on n xs rising.1 below.1)

up : (n : ℕ) (xs : List ℕ) → AllByRecursion (λ m. m < n) xs → AllByRecursion (λ m. m < n + 1) xs
up n xs h = all-weaker (λ m. m < n) (λ m. m < n + 1) xs (λ m less. omega (arith, less)) h

last-or-less : (peer n : ℕ) → peer < n + 1 → (peer ≡ n) ⊎ (peer < n)
last-or-less peer n less = grind arith

-- one more is another one
one-changed : (old new : List PeerView) (n : ℕ) (changed : List ℕ) → AreChangedBelow old new n changed →
    AreChangedBelow old new (n + 1) (changed ++ n ∷ [])
one-changed old new n changed h = record {
  told = λ peer less. elim (last-or-less peer n less)
      as (λ _. IsIn peer (changed ++ n ∷ [])
      ⊎ IsKeptAt old new peer) [
        | inl is ↦ inl (subst (λ (k : ℕ). IsIn k (changed ++ n ∷ [])) (sym is) (in-last n changed))
        | inr before ↦ elim (h.told peer before)
            as (λ _. IsIn peer (changed ++ n ∷ [])
            ⊎ IsKeptAt old new peer) [
              | inl at ↦ inl (in-front peer changed (n ∷ []) at)
              | inr same ↦ inr same
            ]
      ];
  rising = rises-on n changed h.rising h.below;
  below = all-append (λ m. m < n + 1) changed (n ∷ []) (up n changed h.below) (omega arith, tt);
}

-- or it is the one that it was
one-stays : (old new : List PeerView) (n : ℕ) (changed : List ℕ)
    → IsKeptAt old new n → AreChangedBelow old new n changed
    → AreChangedBelow old new (n + 1) changed
one-stays old new n changed here h = record {
  told = λ peer less. elim (last-or-less peer n less)
      as (λ _. IsIn peer changed
      ⊎ IsKeptAt old new peer) [
        | inl is ↦ inr (subst (IsKeptAt old new) (sym is) here)
        | inr before ↦ h.told peer before
      ];
  rising = h.rising;
  below = up n changed h.below;
}

-- one more was looked at
by-test : (b : Bool) (old new : List PeerView) (n : ℕ) (changed : List ℕ)
    → Unless b (IsKeptAt old new n)
    → AreChangedBelow old new n changed → AreChangedBelow old new (n + 1) (noted changed n b)
by-test true old new n changed stays h = one-changed old new n changed h
by-test false old new n changed stays h = one-stays old new n changed stays h

pub one-noted : (old new : List PeerView) (n : ℕ) (changed after : List ℕ) (b : Bool)
    → Unless b (IsKeptAt old new n)
    → after ≡ noted changed n b → AreChangedBelow old new n changed → AreChangedBelow old new (n + 1) after
one-noted old new n changed after b stays is h =
    subst (AreChangedBelow old new (n + 1)) (sym is) (by-test b old new n changed stays h)

pub all-changed : (old new : List PeerView) (n : ℕ) (changed : List ℕ) → length old ≤ n
    → AreChangedBelow old new n changed → AreChanged old new changed
all-changed old new n changed all h =
    record { told = λ peer less. h.told peer (omega (arith, less, all)); rising = h.rising }

-- ---- where none is another one

pub none-noted : (changed : List ℕ) → eqb (length changed) 0 ≡ true → changed ≡ []
none-noted [] is = refl
none-noted (n ∷ ns) is =
    let zero_long : length (n ∷ ns) ≡ 0 = grind (arith, nat_tests, is) in absurd (omega (arith, zero_long))

pub keeps-peers : (old new : List PeerView) → AreChanged old new [] → KeepsPeers old new
keeps-peers old new h =
    all_kept old new (λ peer less. elim (h.told peer less) as (λ _. IsKeptAt old new peer) [
      | inl at ↦ absurd at
      | inr same ↦ same
    ])
