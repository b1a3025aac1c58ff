-- Lists of sessions: when they are distinct, and what is left where one goes.
use Rattle.std.proofs.Common.{◌≡◌, ℕ, zero, suc, ◌+◌, ◌-◌, ◌<◌, ◌≤◌, Bool, true, false, List, [], ◌∷◌, ◌++◌, length, Option, Some, None, refl, ap, ◌∙◌, inl, inr, arith}
use Rattle.std.specs.Prelude.{◌||◌, filter}
use Rattle.std.specs.List.{cons_option, list_any}
use Rattle.std.proofs.lemmas.Bool.{cases_Bool, or_cases, or_from, or_left, or_parts, or_right}
use Rattle.std.proofs.lemmas.List.Folds.{list_any-append}
use Rattle.roam_wire.specs.Numbered.{listed}
use Rattle.roam_sessions.specs.Sessions.{AreDistinct, Session, has_session, same_session, without_first}
use Rattle.roam_sessions.proofs.SameLemmas.{other-way, same-is, same-itself}

-- a session that isn't there isn't among some of them either
pub absent-filter : (s : Session) (p : Session → Bool) (xs : List Session) → has_session s xs ≡ false
    → has_session s (filter p xs) ≡ false
absent-filter s p [] h = refl
absent-filter s p (x ∷ xs) h =
    let parts = or_parts (same_session s x) (has_session s xs) h in
    elim (cases_Bool (p x)) [
      | inl passes ↦ rw passes (or_from (same_session s x) (has_session s (filter p xs)) parts.0
          (absent-filter s p xs parts.1))
      | inr fails ↦ rw fails (absent-filter s p xs parts.1)
    ]

pub distinct-filter : (p : Session → Bool) (xs : List Session) → AreDistinct xs → AreDistinct (filter p xs)
distinct-filter p [] d = tt
distinct-filter p (x ∷ xs) d =
    elim (cases_Bool (p x)) [
      | inl passes ↦ rw passes (absent-filter x p xs d.0, distinct-filter p xs d.1)
      | inr fails ↦ rw fails (distinct-filter p xs d.1)
    ]

-- there are no more of them
pub length-filter-le : (p : Session → Bool) (xs : List Session) → length (filter p xs) ≤ length xs
length-filter-le p [] = omega arith
length-filter-le p (x ∷ xs) =
    elim (cases_Bool (p x)) [
      | inl passes ↦ rw passes (omega (arith, length-filter-le p xs))
      | inr fails ↦ rw fails (omega (arith, length-filter-le p xs))
    ]

-- a new one goes last
pub distinct-last : (s : Session) (xs : List Session) → AreDistinct xs → has_session s xs ≡ false
    → AreDistinct (xs ++ s ∷ [])
distinct-last s [] d h = (refl, tt)
distinct-last s (x ∷ xs) d h =
    let parts = or_parts (same_session s x) (has_session s xs) h in
    let last : has_session x (s ∷ []) ≡ false =
    or_from (same_session x s) false (other-way s x parts.0) refl in
    let apart : has_session x (xs ++ s ∷ []) ≡ false =
    list_any-append (same_session x) xs (s ∷ [])
    ∙ or_from (has_session x xs) (has_session x (s ∷ [])) d.0 last in
    (apart, distinct-last s xs d.1 parts.1)

-- the first that passes goes
pub absent-first : (s : Session) (p : Session → Bool) (xs : List Session) → has_session s xs ≡ false
    → has_session s (without_first p xs) ≡ false
absent-first s p [] h = refl
absent-first s p (x ∷ xs) h =
    let parts = or_parts (same_session s x) (has_session s xs) h in
    elim (cases_Bool (p x)) [
      | inl passes ↦ rw passes parts.1
      | inr fails ↦ rw fails (or_from (same_session s x) (has_session s (without_first p xs)) parts.0
          (absent-first s p xs parts.1))
    ]

pub distinct-first : (p : Session → Bool) (xs : List Session) → AreDistinct xs → AreDistinct (without_first p xs)
distinct-first p [] d = tt
distinct-first p (x ∷ xs) d =
    elim (cases_Bool (p x)) [
      | inl passes ↦ rw passes d.1
      | inr fails ↦ rw fails (absent-first x p xs d.0, distinct-first p xs d.1)
    ]

-- where one passes there is one less
pub length-first : (p : Session → Bool) (xs : List Session) → list_any p xs ≡ true
    → length (without_first p xs) + 1 ≡ length xs
length-first p [] any = absurd (cc any)
length-first p (x ∷ xs) any =
    elim (cases_Bool (p x)) [
      | inl passes ↦ rw passes (omega arith)
      | inr fails ↦ (
          let later : list_any p xs ≡ true = elim (or_cases (p x) (list_any p xs) any) [
            | inl here ↦ absurd (cc (here, fails))
            | inr there ↦ there
          ] in
          rw fails (omega (arith, length-first p xs later)))
    ]

-- one that is there and goes passes
pub gone-passes : (s : Session) (p : Session → Bool) (xs : List Session) → has_session s xs ≡ true
    → has_session s (without_first p xs) ≡ false → p s ≡ true
gone-passes s p [] there gone = absurd (cc there)
gone-passes s p (x ∷ xs) there gone =
    elim (cases_Bool (p x)) [
      | inl passes ↦ (
          let rest : has_session s xs ≡ false = rw passes at gone in
          elim (or_cases (same_session s x) (has_session s xs) there) [
            | inl same ↦ ap p (same-is s x same) ∙ passes
            | inr later ↦ absurd (cc (later, rest))
          ])
      | inr fails ↦ (
          let now : (same_session s x || has_session s (without_first p xs)) ≡ false = rw fails at gone in
          let parts = or_parts (same_session s x) (has_session s (without_first p xs)) now in
          elim (or_cases (same_session s x) (has_session s xs) there) [
            | inl same ↦ absurd (let k = parts.0 in cc (same, k))
            | inr later ↦ gone-passes s p xs later parts.1
          ])
    ]

-- the last one stays where one before it passes
pub there-last : (s : Session) (xs : List Session) → has_session s (xs ++ s ∷ []) ≡ true
there-last s [] = or_left (same_session s s) false (same-itself s)
there-last s (x ∷ xs) = or_right (same_session s x) (has_session s (xs ++ s ∷ [])) (there-last s xs)

pub last-stays : (s : Session) (p : Session → Bool) (xs : List Session) → list_any p xs ≡ true
    → has_session s (without_first p (xs ++ s ∷ [])) ≡ true
last-stays s p [] any = absurd (cc any)
last-stays s p (x ∷ xs) any =
    elim (cases_Bool (p x)) [
      | inl passes ↦ rw passes (there-last s xs)
      | inr fails ↦ (
          let later : list_any p xs ≡ true = elim (or_cases (p x) (list_any p xs) any) [
            | inl here ↦ absurd (cc (here, fails))
            | inr there ↦ there
          ] in
          rw fails (or_right (same_session s x) (has_session s (without_first p (xs ++ s ∷ [])))
          (last-stays s p xs later)))
    ]

-- each session is of one ticket
abbrev pub IsOfOne : (ℕ → Option Session) → Type 0
IsOfOne f = (t u : ℕ) (s x : Session) → f t ≡ Some s → f u ≡ Some x → same_session s x ≡ true
    → t ≡ u

pub listed-distinct : (f : ℕ → Option Session) (t n : ℕ) → IsOfOne f → AreDistinct (listed f t n)
unfolding listed
listed-distinct f t zero one = tt
listed-distinct f t (suc n) one = by (f t) refl (listed-distinct f (t + 1) n one)
  where
    after : (u k : ℕ) (s : Session) → t < u → f t ≡ Some s → has_session s (listed f u k) ≡ false
    after u zero s lt at = refl
    after u (suc k) s lt at = here (f u) refl (after (u + 1) k s (omega arith) at)
      where
        here : (o : Option Session) → f u ≡ o → has_session s (listed f (u + 1) k) ≡ false
            → has_session s (cons_option o (listed f (u + 1) k)) ≡ false
        here None is rest = rest
        here (Some x) is rest = elim (cases_Bool (same_session s x)) [
          | inl same ↦ absurd (let e = one t u s x at is same in omega arith)
          | inr other ↦ or_from (same_session s x) (has_session s (listed f (u + 1) k)) other rest
        ]

    by : (o : Option Session) → f t ≡ o → AreDistinct (listed f (t + 1) n)
        → AreDistinct (cons_option o (listed f (t + 1) n))
    by None at rest = rest
    by (Some s) at rest = (after (t + 1) n s (omega arith) at, rest)
