-- The first of all entries after the last one, found one entry after the other.
use Rattle.std.proofs.Common.{◌≡◌, ◌⊎◌, ℕ, zero, suc, ◌+◌, ◌<◌, ◌≤◌, true, false, List, [], ◌∷◌, ◌++◌, Option, Some, None, refl, ap, sym, subst, ◌∙◌, arith, inl, inr, length, get_or, add-one}
use Rattle.std.specs.Prelude.{take}
use Rattle.std.proofs.lemmas.Bool.{cases_Bool}
use Rattle.std.proofs.lemmas.Bool.Decides.{nat_tests}
use Rattle.roam_pending.specs.declared.due.Due.{Due}
use Rattle.roam_pending.specs.declared.entry.Entry.{Entry}
use Rattle.roam_pending.specs.DueOrder.{is_after, is_before, due_at}
use Rattle.roam_pending.specs.ListLaws.{IsIn, IsNextAfter, IsNextEntry}
use Rattle.roam_pending.specs.PlainEntry.{PlainEntry}
use Rattle.roam_pending.specs.Private.DueSearch.{due_past, earlier}
use Rattle.roam_pending.specs.Shown.{shown, shown_all}

-- what is among a list with one more behind it

in-more : (x : PlainEntry) (xs : List PlainEntry) (e : PlainEntry) → IsIn x (xs ++ e ∷ []) → IsIn x xs ⊎ (e ≡ x)
in-more x [] e h =
    elim h [
      | inl is ↦ inr is
      | inr none ↦ absurd none
    ]
in-more x (y ∷ ys) e h =
    elim h [
      | inl is ↦ inl (inl is)
      | inr later ↦ elim (in-more x ys e later) [
        | inl there ↦ inl (inr there)
        | inr is ↦ inr is
      ]
    ]

in-front : (x : PlainEntry) (xs : List PlainEntry) (e : PlainEntry) → IsIn x xs → IsIn x (xs ++ e ∷ [])
in-front x [] e h = absurd h
in-front x (y ∷ ys) e h =
    elim h [
      | inl is ↦ inl is
      | inr later ↦ inr (in-front x ys e later)
    ]

in-last : (xs : List PlainEntry) (e : PlainEntry) → IsIn e (xs ++ e ∷ [])
in-last [] e = inl refl
in-last (y ∷ ys) e = inr (in-last ys e)

-- ---- the order

later : (a b c : Due) → is_before a b ≡ true → is_before b c ≡ true → is_before a c ≡ true
later a b c h k = grind (arith, nat_tests, h, k)

one_due : (a b : Due) → a.deadline ≡ b.deadline → a.ticket ≡ b.ticket → a ≡ b
one_due a b h k =
    ap (λ (n : ℕ). let d : Due = record { deadline = n; ticket = a.ticket } in d) h
    ∙ ap (λ (n : ℕ). let d : Due = record { deadline = b.deadline; ticket = n } in d) k

not_later : (a b : Due) → is_before b a ≡ false → (a ≡ b) ⊎ (is_before a b ≡ true)
not_later a b h =
    elim (cases_Bool (is_before a b)) as (λ _. (a ≡ b) ⊎ (is_before a b ≡ true)) [
      | inl y ↦ inr y
      | inr n ↦ inl (one_due a b (grind (arith, nat_tests, h, n)) (grind (arith, nat_tests, h, n)))
    ]

-- ---- one entry more

no_other : (last : Option Due) (xs : List PlainEntry) (e : PlainEntry)
    → ((x : PlainEntry) → IsIn x xs → is_after last (due_at x) ≡ false) → is_after last (due_at e) ≡ false
    → (x : PlainEntry) → IsIn x (xs ++ e ∷ []) → is_after last (due_at x) ≡ false
no_other last xs e none n x held =
    elim (in-more x xs e held) [
      | inl there ↦ none x there
      | inr is ↦ subst (λ (y : PlainEntry). is_after last (due_at y) ≡ false) is n
    ]

the_first : (last : Option Due) (xs : List PlainEntry) (e : PlainEntry)
    → ((x : PlainEntry) → IsIn x xs → is_after last (due_at x) ≡ false) → is_after last (due_at e) ≡ true
    → IsNextEntry last (xs ++ e ∷ []) (due_at e)
the_first last xs e none y = record {
  entry = e;
  held = in-last xs e;
  at = refl;
  after = y;
  first = λ x held after. elim (in-more x xs e held)
      as (λ _. (due_at e ≡ due_at x) ⊎ (is_before (due_at e) (due_at x) ≡ true)) [
        | inl there ↦ absurd (let k : true ≡ false = sym after ∙ none x there in cc)
        | inr is ↦ inl (ap due_at is)
      ];
}

stays_first : (last : Option Due) (xs : List PlainEntry) (e : PlainEntry) (d : Due) → IsNextEntry last xs d
    → (is_after last (due_at e) ≡ true → (d ≡ due_at e) ⊎ (is_before d (due_at e) ≡ true))
    → IsNextEntry last (xs ++ e ∷ []) d
stays_first last xs e d next own = record {
  entry = next.entry;
  held = in-front next.entry xs e next.held;
  at = next.at;
  after = next.after;
  first = λ x held after. elim (in-more x xs e held)
      as (λ _. (d ≡ due_at x) ⊎ (is_before d (due_at x) ≡ true)) [
        | inl there ↦ next.first x there after
        | inr is ↦ subst (λ (y : PlainEntry). (d ≡ due_at y) ⊎ (is_before d (due_at y) ≡ true)) is
            (own (subst (λ (y : PlainEntry). is_after last (due_at y) ≡ true) (sym is) after))
      ];
}

comes_first : (last : Option Due) (xs : List PlainEntry) (e : PlainEntry) (d : Due) → IsNextEntry last xs d
    → is_after last (due_at e) ≡ true → is_before (due_at e) d ≡ true
    → IsNextEntry last (xs ++ e ∷ []) (due_at e)
comes_first last xs e d next y less = record {
  entry = e;
  held = in-last xs e;
  at = refl;
  after = y;
  first = λ x held after. elim (in-more x xs e held)
      as (λ _. (due_at e ≡ due_at x) ⊎ (is_before (due_at e) (due_at x) ≡ true)) [
        | inl there ↦ elim (next.first x there after)
            as (λ _. (due_at e ≡ due_at x) ⊎ (is_before (due_at e) (due_at x) ≡ true)) [
              | inl is ↦ inr (subst (λ (z : Due). is_before (due_at e) z ≡ true) is less)
              | inr before ↦ inr (later (due_at e) d (due_at x) less before)
            ]
        | inr is ↦ inl (ap due_at is)
      ];
}

one-more : (last best : Option Due) (xs : List PlainEntry) (e : PlainEntry) → IsNextAfter last xs best
    → IsNextAfter last (xs ++ e ∷ []) (earlier best (due_past last e))
one-more last None xs e h =
    elim (cases_Bool (is_after last (due_at e))) [
      | inl y ↦ rw y (the_first last xs e h y)
      | inr n ↦ rw n (no_other last xs e h n)
    ]
one-more last (Some d) xs e h =
    elim (cases_Bool (is_after last (due_at e))) [
      | inl y ↦ elim (cases_Bool (is_before (due_at e) d)) [
        | inl less ↦ rw (y, less) (comes_first last xs e d h y less)
        | inr not_less ↦ rw (y, not_less)
            (stays_first last xs e d h (λ _. not_later d (due_at e) not_less))
      ]
      | inr n ↦ rw n
          (stays_first last xs e d h (λ y. absurd (let k : true ≡ false = sym y ∙ n in cc)))
    ]

-- ---- over entries that stand in a row

taken-one : {A : Type 0} (es : List (Entry A)) (i : ℕ) (e : Entry A) → i < length es → e ≡ get_or es i e
    → shown_all (take (suc i) es) ≡ shown_all (take i es) ++ shown e ∷ []
taken-one [] i e lt at = absurd (omega arith)
taken-one (x ∷ xs) zero e lt at = rw at refl
taken-one (x ∷ xs) (suc i) e lt at =
    ap (λ (l : List PlainEntry). shown x ∷ l) (taken-one xs i e (omega arith) at)

-- one turn of the search
pub next-turn : {A : Type 0} (last best : Option Due) (es : List (Entry A)) (i : ℕ) (e : Entry A)
    → i < length es → e ≡ get_or es i e → IsNextAfter last (shown_all (take i es)) best
    → IsNextAfter last (shown_all (take (i + 1) es)) (earlier best (due_past last (shown e)))
next-turn last best es i e lt at h =
    subst (λ (l : List PlainEntry). IsNextAfter last l (earlier best (due_past last (shown e))))
    (sym (ap (λ (n : ℕ). shown_all (take n es)) (add-one i) ∙ taken-one es i e lt at))
    (one-more last best (shown_all (take i es)) (shown e) h)

taken-all : {A : Type 0} (es : List (Entry A)) (i : ℕ) → length es ≤ i → take i es ≡ es
taken-all [] zero past = refl
taken-all [] (suc i) past = refl
taken-all (x ∷ xs) zero past = absurd (omega arith)
taken-all {A} (x ∷ xs) (suc i) past = ap (λ (l : List (Entry A)). x ∷ l) (taken-all xs i (omega arith))

-- its end
pub next-end : {A : Type 0} (last best : Option Due) (es : List (Entry A)) (i : ℕ) → length es ≤ i
    → IsNextAfter last (shown_all (take i es)) best → IsNextAfter last (shown_all es) best
next-end {A} last best es i past h =
    subst (λ (l : List (Entry A)). IsNextAfter last (shown_all l) best) (taken-all es i past) h
