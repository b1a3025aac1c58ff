-- Who has most of some sessions, and the one that makes way.
use Rattle.std.proofs.Common.{◌≡◌, ◌≢◌, ℕ, zero, suc, ◌+◌, ◌<◌, ◌≤◌, ◌==◌, Bool, true, false, List, [], ◌∷◌, ◌++◌, length, refl, sym, ap, ◌∙◌, subst, inl, inr, arith}
use Rattle.std.specs.Prelude.{◌||◌, filter, nat_le, nat_lt, if◌then◌else◌}
use Rattle.std.specs.List.{list_all, list_any}
use Rattle.std.proofs.lemmas.Bool.{and_from, and_parts, cases_Bool, or_cases, or_left, or_right}
use Rattle.std.proofs.lemmas.Bool.Decides.{nat_tests}
use Rattle.std.proofs.lemmas.List.Folds.{list_any-append}
use Rattle.roam_sessions.specs.Sessions.{Session, count_of_peer, has_most}
use Rattle.roam_sessions.proofs.SameLemmas.{number-is, other-number, same-number}

any-implies : (p r : Session → Bool) (xs : List Session) → ((x : Session) → p x ≡ true → r x ≡ true)
    → list_any p xs ≡ true → list_any r xs ≡ true
any-implies p r [] says any = absurd (cc any)
any-implies p r (x ∷ xs) says any = elim (or_cases (p x) (list_any p xs) any) [
  | inl here ↦ or_left (r x) (list_any r xs) (says x here)
  | inr later ↦ or_right (r x) (list_any r xs) (any-implies p r xs says later)
]

all-implies : (p r : Session → Bool) (xs : List Session) → ((x : Session) → p x ≡ true → r x ≡ true)
    → list_all p xs ≡ true → list_all r xs ≡ true
all-implies p r [] says all = refl
all-implies p r (x ∷ xs) says all =
    let parts = and_parts (p x) (list_all p xs) all in
    and_from (r x) (list_all r xs) (says x parts.0) (all-implies p r xs says parts.1)

at-most : (a b : ℕ) → a ≤ b → nat_le a b ≡ true
at-most a b le = grind (arith, nat_tests)

at-least : (a b : ℕ) → nat_le a b ≡ true → a ≤ b
at-least a b h = grind (arith, nat_tests)

-- the greatest of some numbers
greatest : (Session → ℕ) → Session → List Session → ℕ
greatest m x [] = m x
greatest m x (y ∷ ys) = if nat_lt (greatest m y ys) (m x) then m x else greatest m y ys

less-is : (a b : ℕ) → nat_lt a b ≡ true → a < b
less-is a b h = grind (arith, nat_tests)

not-less : (a b : ℕ) → nat_lt a b ≡ false → b ≤ a
not-less a b h = grind (arith, nat_tests)

greatest-first : (m : Session → ℕ) (x y : Session) (ys : List Session) → nat_lt (greatest m y ys) (m x) ≡ true
    → greatest m x (y ∷ ys) ≡ m x
unfolding greatest
greatest-first m x y ys less = rw less refl

greatest-later : (m : Session → ℕ) (x y : Session) (ys : List Session) → nat_lt (greatest m y ys) (m x) ≡ false
    → greatest m x (y ∷ ys) ≡ greatest m y ys
unfolding greatest
greatest-later m x y ys more = rw more refl

none-greater : (m : Session → ℕ) (x : Session) (xs : List Session)
    → list_all (λ s. nat_le (m s) (greatest m x xs)) (x ∷ xs) ≡ true
unfolding greatest
none-greater m x [] = and_from (nat_le (m x) (m x)) true (at-most (m x) (m x) (omega arith)) refl
none-greater m x (y ∷ ys) = elim (cases_Bool (nat_lt (greatest m y ys) (m x))) [
  | inl less ↦ subst (λ (n : ℕ). list_all (λ s. nat_le (m s) n) (x ∷ y ∷ ys) ≡ true)
      (sym (greatest-first m x y ys less))
      (and_from (nat_le (m x) (m x)) (list_all (λ s. nat_le (m s) (m x)) (y ∷ ys))
      (at-most (m x) (m x) (omega arith))
      (all-implies (λ s. nat_le (m s) (greatest m y ys)) (λ s. nat_le (m s) (m x)) (y ∷ ys)
      (λ s le. at-most (m s) (m x) (let a = at-least (m s) (greatest m y ys) le in
      let b = less-is (greatest m y ys) (m x) less in omega (arith, a, b)))
      (none-greater m y ys)))
  | inr more ↦ subst (λ (n : ℕ). list_all (λ s. nat_le (m s) n) (x ∷ y ∷ ys) ≡ true)
      (sym (greatest-later m x y ys more))
      (and_from (nat_le (m x) (greatest m y ys))
      (list_all (λ s. nat_le (m s) (greatest m y ys)) (y ∷ ys))
      (at-most (m x) (greatest m y ys) (not-less (greatest m y ys) (m x) more))
      (none-greater m y ys))
]

one-reaches : (m : Session → ℕ) (x : Session) (xs : List Session)
    → list_any (λ s. m s == greatest m x xs) (x ∷ xs) ≡ true
unfolding greatest
one-reaches m x [] = or_left (m x == m x) false (same-number (m x) (m x) refl)
one-reaches m x (y ∷ ys) = elim (cases_Bool (nat_lt (greatest m y ys) (m x))) [
  | inl less ↦ subst (λ (n : ℕ). list_any (λ s. m s == n) (x ∷ y ∷ ys) ≡ true) (sym (greatest-first m x y ys less))
      (or_left (m x == m x) (list_any (λ s. m s == m x) (y ∷ ys)) (same-number (m x) (m x) refl))
  | inr more ↦ subst (λ (n : ℕ). list_any (λ s. m s == n) (x ∷ y ∷ ys) ≡ true) (sym (greatest-later m x y ys more))
      (or_right (m x == greatest m y ys) (list_any (λ s. m s == greatest m y ys) (y ∷ ys))
      (one-reaches m y ys))
]

-- in a list that isn't empty one has most
counts : List Session → Session → ℕ
counts xs s = count_of_peer s.peer xs

reaching-has-most : (x : Session) (xs : List Session) (s : Session)
    → (counts (x ∷ xs) s == greatest (counts (x ∷ xs)) x xs) ≡ true → has_most (x ∷ xs) s ≡ true
unfolding counts
reaching-has-most x xs s is = all-implies
    (λ other. nat_le (counts (x ∷ xs) other) (greatest (counts (x ∷ xs)) x xs))
    (λ other. nat_le (count_of_peer other.peer (x ∷ xs)) (count_of_peer s.peer (x ∷ xs))) (x ∷ xs)
    (λ other le. at-most (count_of_peer other.peer (x ∷ xs)) (count_of_peer s.peer (x ∷ xs))
    (let a = at-least (count_of_peer other.peer (x ∷ xs)) (greatest (counts (x ∷ xs)) x xs) le in
    let b = number-is (count_of_peer s.peer (x ∷ xs)) (greatest (counts (x ∷ xs)) x xs) is in omega (arith, a, b)))
    (none-greater (counts (x ∷ xs)) x xs)

pub one-has-most : (x : Session) (xs : List Session) → list_any (has_most (x ∷ xs)) (x ∷ xs) ≡ true
one-has-most x xs =
    any-implies (λ s. counts (x ∷ xs) s == greatest (counts (x ∷ xs)) x xs) (has_most (x ∷ xs)) (x ∷ xs)
    (reaching-has-most x xs) (one-reaches (counts (x ∷ xs)) x xs)

-- ---- how many a peer has

one_if : Bool → ℕ
one_if true = 1
one_if false = 0

count-last : (p : Session → Bool) (xs : List Session) (s : Session)
    → length (filter p (xs ++ s ∷ [])) ≡ length (filter p xs) + one_if (p s)
unfolding one_if
count-last p [] s = elim (cases_Bool (p s)) [ inl is ↦ rw is refl | inr isnt ↦ rw isnt refl ]
count-last p (x ∷ xs) s = elim (cases_Bool (p x)) [
  | inl is ↦ rw is (omega (arith, count-last p xs s))
  | inr isnt ↦ rw isnt (count-last p xs s)
]

count-some : (p : Session → Bool) (xs : List Session) → 0 < length (filter p xs) → list_any p xs ≡ true
count-some p [] some = absurd (omega (arith, some))
count-some p (x ∷ xs) some = elim (cases_Bool (p x)) [
  | inl is ↦ or_left (p x) (list_any p xs) is
  | inr isnt ↦ (
      let rest : 0 < length (filter p xs) = rw isnt at some in
      or_right (p x) (list_any p xs) (count-some p xs rest))
]

count-first : (p : Session → Bool) (x : Session) (xs : List Session) → p x ≡ true → 1 ≤ length (filter p (x ∷ xs))
count-first p x xs is = rw is (omega arith)

all-last : (p : Session → Bool) (xs : List Session) (s : Session) → list_all p (xs ++ s ∷ []) ≡ true → p s ≡ true
all-last p [] s all = (and_parts (p s) true all).0
all-last p (x ∷ xs) s all = all-last p xs s (and_parts (p x) (list_all p (xs ++ s ∷ [])) all).1

own-counted : (s : Session) (xs : List Session) → count_of_peer s.peer (xs ++ s ∷ []) ≡ count_of_peer s.peer xs + 1
unfolding one_if
own-counted s xs =
    let own = count-last (λ (z : Session). z.peer == s.peer) xs s in
    let itself : one_if (s.peer == s.peer) ≡ 1 = ap one_if (same-number s.peer s.peer refl) in
    omega (arith, own, itself)

-- a new session doesn't make way itself: one of those before it has most
module _ (x : Session) (xs : List Session) (s : Session) where
  all : List Session
  all = (x ∷ xs) ++ s ∷ []

  any-most : (list_any (has_most all) (x ∷ xs) || list_any (has_most all) (s ∷ [])) ≡ true
  unfolding all
  any-most = sym (list_any-append (has_most ((x ∷ xs) ++ s ∷ [])) (x ∷ xs) (s ∷ [])) ∙ one-has-most x (xs ++ s ∷ [])

  -- a session of the same peer has most too
  peer-has : has_most all s ≡ true → (other : Session) → (other.peer == s.peer) ≡ true → has_most all other ≡ true
  peer-has most other is =
      ap (λ (n : ℕ). list_all (λ z. nat_le (count_of_peer z.peer all) (count_of_peer n all)) all)
      (number-is other.peer s.peer is) ∙ most

  -- the first one has one at least
  first-has : 1 ≤ count_of_peer x.peer all
  unfolding all
  first-has = count-first (λ (z : Session). z.peer == x.peer) x (xs ++ s ∷ []) (same-number x.peer x.peer refl)

  last-has : has_most all s ≡ true → (n : ℕ) → count_of_peer s.peer (x ∷ xs) ≡ n
      → list_any (has_most all) (x ∷ xs) ≡ true
  unfolding all
  last-has most zero none = (
      let own = own-counted s (x ∷ xs) in
      let one : count_of_peer s.peer ((x ∷ xs) ++ s ∷ []) ≡ 1 = omega (arith, own, none) in
      or_left (has_most all x) (list_any (has_most all) xs)
      (all-implies (λ z. nat_le (count_of_peer z.peer all) (count_of_peer s.peer all))
      (λ z. nat_le (count_of_peer z.peer all) (count_of_peer x.peer all)) all
      (λ z le. at-most (count_of_peer z.peer all) (count_of_peer x.peer all)
      (let a = at-least (count_of_peer z.peer all) (count_of_peer s.peer all) le in
      omega (arith, a, one, first-has)))
      most))
  last-has most (suc n) some =
      any-implies (λ (other : Session). other.peer == s.peer) (has_most all) (x ∷ xs) (peer-has most)
      (count-some (λ (other : Session). other.peer == s.peer) (x ∷ xs) (omega (arith, some)))

  pub former-has-most : list_any (has_most ((x ∷ xs) ++ s ∷ [])) (x ∷ xs) ≡ true
  unfolding all
  former-has-most = elim (or_cases (list_any (has_most all) (x ∷ xs)) (list_any (has_most all) (s ∷ [])) any-most) [
    | inl before ↦ before
    | inr last ↦ last-has (only last) (count_of_peer s.peer (x ∷ xs)) refl
  ]
    where
      only : list_any (has_most all) (s ∷ []) ≡ true → has_most all s ≡ true
      only last = elim (or_cases (has_most all s) false last) [
        | inl is ↦ is
        | inr isnt ↦ absurd (cc isnt)
      ]

-- one of another peer that has most has more than the new one's peer had
pub has-more : (s other : Session) (xs : List Session) → other.peer ≢ s.peer
    → has_most (xs ++ s ∷ []) other ≡ true → count_of_peer s.peer xs < count_of_peer other.peer xs
unfolding one_if
has-more s other xs apart most =
    let le = at-least (count_of_peer s.peer (xs ++ s ∷ [])) (count_of_peer other.peer (xs ++ s ∷ []))
    (all-last (λ z. nat_le (count_of_peer z.peer (xs ++ s ∷ [])) (count_of_peer other.peer (xs ++ s ∷ []))) xs s
    most) in
    let own = own-counted s xs in
    let its = count-last (λ (z : Session). z.peer == other.peer) xs s in
    let not_it : one_if (s.peer == other.peer) ≡ 0 =
    ap one_if (other-number s.peer other.peer (λ e. apart (sym e))) in
    omega (arith, le, own, its, not_it)
