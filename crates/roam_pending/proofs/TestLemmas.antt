-- Tests of numbers and keys, and lists whose elements are kept or joined.
use Rattle.std.proofs.Common.{◌≡◌, ◌≢◌, ℕ, ◌<◌, ◌≤◌, Bool, true, false, ◌&&◌, Decides, List, [], ◌∷◌, ◌++◌, Some, None, refl, arith, eqb, ltb, inl, inr}
use Rattle.std.specs.Prelude.{◌⊎◌}
use Rattle.std.specs.List.{AllByRecursion, filter, find}
use Rattle.std.proofs.lemmas.Bool.{cases_Bool}
use Rattle.std.proofs.lemmas.Bool.Decides.{Decides-and, Decides-eqb, nat_tests}
use Rattle.roam_conf.proofs.EqualPartsLemmas.{endpoint_decides}
use Rattle.roam_conf.specs.declared.place.Link.{Link}
use Rattle.roam_conf.specs.declared.place.Link.TheVariants as link
use Rattle.roam_conf.specs.declared.place.Place.{Place}
use Rattle.roam_conf.specs.declared.place.Place.TheVariants as place
use Rattle.roam_pending.specs.declared.key.Key.{Key}
use Rattle.roam_pending.specs.PlainEntry.{same_key, same_link, same_place}

pub same : (a b : ℕ) → a ≡ b → eqb a b ≡ true
same a b h = grind (arith, nat_tests)

pub differs : (a b : ℕ) → a ≢ b → eqb a b ≡ false
differs a b h = grind (arith, nat_tests)

pub less : (a b : ℕ) → a < b → ltb a b ≡ true
less a b h = grind (arith, nat_tests)

pub not_less : (a b : ℕ) → b ≤ a → ltb a b ≡ false
not_less a b h = grind (arith, nat_tests)

-- which of three holds
pub compared : (a b : ℕ) → (a < b) ⊎ ((a ≡ b) ⊎ (b < a))
compared a b = grind arith

place_is_same : (p : Place) → same_place p p ≡ true
place_is_same (place.Auth nth) = same nth nth refl
place_is_same (place.Acct nth) = same nth nth refl
place_is_same (place.Out a nth) = rw (same a a refl) (same nth nth refl)
place_is_same (place.Reverse a nth) = rw (same a a refl) (same nth nth refl)

-- a link is the same as itself
pub link_is_same : (l : Link) → same_link l l ≡ true
link_is_same (link.Auth a out) = rw (same a a refl) (same out out refl)
link_is_same (link.Acct a out) = rw (same a a refl) (same out out refl)
link_is_same (link.Coa a out) = rw (same a a refl) (same out out refl)

-- two numbers that are tested together
pub pair_decides : (a b k j : ℕ) → Decides (eqb a b && eqb k j) ((a ≡ b) × (k ≡ j))
pair_decides a b k j = Decides-and (eqb a b) (eqb k j) (Decides-eqb a b) (Decides-eqb k j)

-- a key is the same as itself
pub key_is_same : (k : Key) → same_key k k ≡ true
key_is_same k =
    rw (place_is_same k.place, (endpoint_decides k.from k.from).1 refl) (same k.id k.id refl)

-- what holds of each element holds of each that is kept
pub all-filter :
    {X : Type 0} (P : X → Type 0) (p : X → Bool) (xs : List X) → AllByRecursion P xs
    → AllByRecursion P (filter p xs)
all-filter P p [] h = tt
all-filter P p (x ∷ xs) h =
    elim (cases_Bool (p x)) [
      | inl y ↦ rw y (h.0, all-filter P p xs h.1)
      | inr n ↦ rw n (all-filter P p xs h.1)
    ]

-- and of each of two lists' elements, of each of both
pub all-append :
    {X : Type 0} (P : X → Type 0) (xs ys : List X) → AllByRecursion P xs → AllByRecursion P ys
    → AllByRecursion P (xs ++ ys)
all-append P [] ys h k = k
all-append P (x ∷ xs) ys h k = (h.0, all-append P xs ys h.1 k)

-- and of one that is found
pub all-find :
    {X : Type 0} (P : X → Type 0) (p : X → Bool) (xs : List X) (y : X) → find p xs ≡ Some y
    → AllByRecursion P xs → P y
all-find P p [] y at h = absurd (let k : None ≡ Some y = at in cc)
all-find P p (x ∷ xs) y at h =
    elim (cases_Bool (p x)) [
      | inl t ↦ let k : Some x ≡ Some y = rw t at at in let e : x ≡ y = cc in rw (← e) h.0
      | inr n ↦ all-find P p xs y (rw n at at) h.1
    ]

-- what holds of each, by what follows from it
pub all-weaker :
    {X : Type 0} (P Q : X → Type 0) (xs : List X) → ((x : X) → P x → Q x) → AllByRecursion P xs
    → AllByRecursion Q xs
all-weaker P Q [] f h = tt
all-weaker P Q (x ∷ xs) f h = (f x h.0, all-weaker P Q xs f h.1)
