-- What a change of the list does to what is due, and how the due ones are read one after the other.
use Rattle.std.proofs.Common.{◌≡◌, ◌≢◌, ℕ, ◌<◌, ◌≤◌, true, false, List, [], ◌∷◌, ◌++◌, Some, None, refl, ap, sym, ◌∙◌, subst, arith, cond, eqb, inl, inr}
use Rattle.std.specs.Prelude.{◌⊎◌, ◌==◌, not, nat_le, slice_get}
use Rattle.std.specs.List.{AllByRecursion, filter, find, last_or}
use Rattle.std.proofs.lemmas.Bool.{cases_Bool}
use Rattle.std.proofs.lemmas.Bool.Decides.{nat_tests}
use Rattle.roam_pending.specs.declared.due.Due.{Due}
use Rattle.roam_pending.specs.PlainEntry.{PlainEntry, deadline_of}
use Rattle.roam_pending.specs.EntryList.{IsInOrder, put, without}
use Rattle.roam_pending.specs.DueOrder.{is_before, into, due_at, is_due, due_list, is_after, due_after}
use Rattle.roam_pending.specs.ListLaws.{IsIn, AreInDueOrder, IsDueEntry}
use Rattle.roam_pending.proofs.TestLemmas.{same, differs, compared, all-weaker}
use Rattle.roam_pending.proofs.OrderLemmas.{IsAbove, find-above, put-after, put-same, put-before, without-absent}
use Rattle.roam_pending.proofs.DueLemmas.{IsNotAfter, IsRising, not_after-further, rising-due_list}

-- a list of dues with one entry more
abbrev pub with_due : ℕ → PlainEntry → List Due → List Due
with_due now e ds = cond (is_due now e) (into (due_at e) ds) ds

pub due-cons :
    (now : ℕ) (e : PlainEntry) (es : List PlainEntry)
    → due_list now (e ∷ es) ≡ with_due now e (due_list now es)
due-cons now e es =
    elim (cases_Bool (is_due now e)) [
      | inl y ↦ rw y refl
      | inr n ↦ rw n refl
    ]

-- The order

before_not_after : (a b : Due) → is_before a b ≡ true → is_before b a ≡ false
before_not_after a b h = grind (arith, nat_tests, h)

before_by_ticket : (a b : Due) → is_before b a ≡ false → b.ticket ≢ a.ticket → is_before a b ≡ true
before_by_ticket a b h ne = grind (arith, nat_tests, h)

before_trans : (a b c : Due) → is_before a b ≡ true → is_before b c ≡ true → is_before a c ≡ true
before_trans a b c h k = grind (arith, nat_tests, h, k)

not_before_itself : (a : Due) → is_before a a ≡ false
not_before_itself a = grind (arith, nat_tests)

-- what holds of a due and of each of a list holds of each with that due among them
all-into :
    (P : Due → Type 0) (d : Due) (ds : List Due) → P d → AllByRecursion P ds
    → AllByRecursion P (into d ds)
all-into P d [] here h = (here, tt)
all-into P d (x ∷ xs) here h =
    elim (cases_Bool (is_before x d)) [
      | inl b ↦ rw b (h.0, all-into P d xs here h.1)
      | inr n ↦ rw n (here, h)
    ]

-- dues of other tickets
abbrev pub IsOfOtherTickets : ℕ → List Due → Type 0
IsOfOtherTickets t ds = AllByRecursion (λ x. x.ticket ≢ t) ds

other-due : (now s : ℕ) (es : List PlainEntry) → IsAbove s es → IsOfOtherTickets s (due_list now es)
other-due now s [] h = tt
other-due now s (e ∷ es) h =
    let gt : s < e.ticket = h.0 in
    let ne : e.ticket ≢ s = λ is. omega arith in
    let rest = other-due now s es h.1 in
    elim (cases_Bool (is_due now e)) [
      | inl y ↦ rw y (all-into (λ x. x.ticket ≢ s) (due_at e) (due_list now es) ne rest)
      | inr n ↦ rw n rest
    ]

strict-into :
    (d : Due) (ds : List Due) → IsOfOtherTickets d.ticket ds → AreInDueOrder ds → AreInDueOrder (into d ds)
strict-into d [] other h = (tt, tt)
strict-into d (x ∷ xs) other h =
    elim (cases_Bool (is_before x d)) [
      | inl b ↦ rw b (all-into (λ y. is_before x y ≡ true) d xs b h.0, strict-into d xs other.1 h.1)
      | inr n ↦
          let first = before_by_ticket d x n other.0 in
          rw n (
            (
              first,
              all-weaker (λ y. is_before x y ≡ true) (λ y. is_before d y ≡ true) xs
                  (λ y k. before_trans d x y first k) h.0,
            ),
            h,
          )
    ]

-- the list of what is due rises
pub strict-due : (now : ℕ) (es : List PlainEntry) → IsInOrder es → AreInDueOrder (due_list now es)
strict-due now [] h = tt
strict-due now (e ∷ es) h =
    elim (cases_Bool (is_due now e)) [
      | inl y ↦ rw y (strict-into (due_at e) (due_list now es) (other-due now e.ticket es h.0) (strict-due now es h.1))
      | inr n ↦ rw n (strict-due now es h.1)
    ]

-- What is in it

in-into : (x d : Due) (ds : List Due) → IsIn x (into d ds) → (d ≡ x) ⊎ IsIn x ds
in-into x d [] h = h
in-into x d (y ∷ ys) h =
    elim (cases_Bool (is_before y d)) [
      | inl b ↦ elim (rw b at h) [
        | inl here ↦ inr (inl here)
        | inr there ↦ elim (in-into x d ys there) [
          | inl is ↦ inl is
          | inr later ↦ inr (inr later)
        ]
      ]
      | inr n ↦ rw n at h
    ]

into-in : (x d : Due) (ds : List Due) → (d ≡ x) ⊎ IsIn x ds → IsIn x (into d ds)
into-in x d [] h = h
into-in x d (y ∷ ys) h =
    elim (cases_Bool (is_before y d)) [
      | inl b ↦ rw b (elim h [
        | inl is ↦ inr (into-in x d ys (inl is))
        | inr rest ↦ elim rest [
          | inl here ↦ inl here
          | inr there ↦ inr (into-in x d ys (inr there))
        ]
      ])
      | inr n ↦ rw n h
    ]

reached : (now : ℕ) (e : PlainEntry) → is_due now e ≡ true → deadline_of e.standing ≤ now
reached now e h = grind (arith, nat_tests, h)

is_reached : (now : ℕ) (e : PlainEntry) → deadline_of e.standing ≤ now → is_due now e ≡ true
is_reached now e h = grind (arith, nat_tests)

pub due-in :
    (now : ℕ) (es : List PlainEntry) (d : Due) → IsIn d (due_list now es)
    → (e : PlainEntry) × IsDueEntry now d e es
due-in now [] d h = absurd h
due-in now (e ∷ es) d h =
    elim (cases_Bool (is_due now e)) [
      | inl y ↦ elim (in-into d (due_at e) (due_list now es) (rw y at h)) [
        | inl is ↦ (e, record { held = inl refl; at = is; reached = reached now e y })
        | inr later ↦ let found = due-in now es d later in
            (found.0, record { held = inr found.1.held; at = found.1.at; reached = found.1.reached })
      ]
      | inr n ↦ let found = due-in now es d (rw n at h) in
          (found.0, record { held = inr found.1.held; at = found.1.at; reached = found.1.reached })
    ]

pub in-due :
    (now : ℕ) (es : List PlainEntry) (d : Due) (e : PlainEntry) → IsIn e es → due_at e ≡ d
    → deadline_of e.standing ≤ now → IsIn d (due_list now es)
in-due now [] d e held at le = absurd held
in-due now (x ∷ xs) d e held at le =
    elim held [
      | inl is ↦
          let y : is_due now x ≡ true = rw is (is_reached now e le) in
          rw y (into-in d (due_at x) (due_list now xs) (inl (ap due_at is ∙ at)))
      | inr later ↦
          let rest = in-due now xs d e later at le in
          elim (cases_Bool (is_due now x)) [
            | inl y ↦ rw y (into-in d (due_at x) (due_list now xs) (inr rest))
            | inr n ↦ rw n rest
          ]
    ]

-- Without a ticket

abbrev pub leaves : ℕ → List Due → List Due
leaves t ds = filter (λ d. not (d.ticket == t)) ds

into-front : (d : Due) (ds : List Due) → IsNotAfter d ds → into d ds ≡ d ∷ ds
into-front d [] h = refl
into-front d (x ∷ xs) h = rw h.0 refl

not_after-leaves : (t : ℕ) (d : Due) (ds : List Due) → IsNotAfter d ds → IsNotAfter d (leaves t ds)
not_after-leaves t d [] h = tt
not_after-leaves t d (x ∷ xs) h =
    elim (cases_Bool (eqb x.ticket t)) [
      | inl y ↦ rw y (not_after-leaves t d xs h.1)
      | inr n ↦ rw n (h.0, not_after-leaves t d xs h.1)
    ]

leaves-into_same :
    (t : ℕ) (d : Due) (ds : List Due) → eqb d.ticket t ≡ true → leaves t (into d ds) ≡ leaves t ds
leaves-into_same t d [] h = rw h refl
leaves-into_same t d (x ∷ xs) h =
    elim (cases_Bool (is_before x d)) [
      | inl b ↦ rw b (ap (λ (l : List Due). cond (not (eqb x.ticket t)) (x ∷ l) l) (leaves-into_same t d xs h))
      | inr n ↦ rw (n, h) refl
    ]

leaves-into_other :
    (t : ℕ) (d : Due) (ds : List Due) → eqb d.ticket t ≡ false → IsRising ds
    → leaves t (into d ds) ≡ into d (leaves t ds)
leaves-into_other t d [] h r = rw h refl
leaves-into_other t d (x ∷ xs) h r =
    elim (cases_Bool (is_before x d)) [
      | inl b ↦ elim (cases_Bool (eqb x.ticket t)) [
        | inl y ↦ rw (b, y) (leaves-into_other t d xs h r.1)
        | inr n ↦ rw (b, n, b) (ap (λ (l : List Due). x ∷ l) (leaves-into_other t d xs h r.1))
      ]
      | inr a ↦ elim (cases_Bool (eqb x.ticket t)) [
        | inl y ↦ rw (a, h, y) (sym (into-front d (leaves t xs)
            (not_after-leaves t d xs (not_after-further d x xs a r.0))))
        | inr n ↦ rw (a, h, n, a) refl
      ]
    ]

pub due-without :
    (now t : ℕ) (es : List PlainEntry) → due_list now (without t es) ≡ leaves t (due_list now es)
due-without now t [] = refl
due-without now t (e ∷ es) =
    elim (cases_Bool (eqb e.ticket t)) [
      | inl y ↦ elim (cases_Bool (is_due now e)) [
        | inl b ↦ rw (y, b) (due-without now t es ∙ sym (leaves-into_same t (due_at e) (due_list now es) y))
        | inr a ↦ rw (y, a) (due-without now t es)
      ]
      | inr n ↦ elim (cases_Bool (is_due now e)) [
        | inl b ↦ rw (n, b) (ap (into (due_at e)) (due-without now t es)
            ∙ sym (leaves-into_other t (due_at e) (due_list now es) n (rising-due_list now es)))
        | inr a ↦ rw (n, a) (due-without now t es)
      ]
    ]

-- tickets after a due differ from its own where the order rises and tickets are distinct
abbrev pub HasDistinctTickets : List Due → Type 0
HasDistinctTickets [] = Unit {0}
HasDistinctTickets (d ∷ ds) = IsOfOtherTickets d.ticket ds × HasDistinctTickets ds

distinct-into :
    (d : Due) (ds : List Due) → IsOfOtherTickets d.ticket ds → HasDistinctTickets ds
    → HasDistinctTickets (into d ds)
distinct-into d [] other h = (tt, tt)
distinct-into d (x ∷ xs) other h =
    elim (cases_Bool (is_before x d)) [
      | inl b ↦ rw b (
        all-into (λ y. y.ticket ≢ x.ticket) d xs (λ is. other.0 (sym is)) h.0,
        distinct-into d xs other.1 h.1,
      )
      | inr n ↦ rw n (other, h)
    ]

distinct-due :
    (now : ℕ) (es : List PlainEntry) → IsInOrder es → HasDistinctTickets (due_list now es)
distinct-due now [] h = tt
distinct-due now (e ∷ es) h =
    elim (cases_Bool (is_due now e)) [
      | inl y ↦ rw y (distinct-into (due_at e) (due_list now es) (other-due now e.ticket es h.0)
          (distinct-due now es h.1))
      | inr n ↦ rw n (distinct-due now es h.1)
    ]

leaves-other : (t : ℕ) (ds : List Due) → IsOfOtherTickets t ds → leaves t ds ≡ ds
leaves-other t [] h = refl
leaves-other t (d ∷ ds) h = rw (differs d.ticket t h.0) (ap (λ (l : List Due). d ∷ l) (leaves-other t ds h.1))

-- once the least due entry is taken out, the rest of the list is due
pub due-taken :
    (now : ℕ) (es : List PlainEntry) (d : Due) (ds : List Due) → IsInOrder es
    → due_list now es ≡ d ∷ ds → due_list now (without d.ticket es) ≡ ds
due-taken now es d ds order h =
    let distinct = subst HasDistinctTickets h (distinct-due now es order) in
    due-without now d.ticket es ∙ ap (leaves d.ticket) h
    ∙ rw (same d.ticket d.ticket refl) (leaves-other d.ticket ds distinct.0)

-- what isn't due counts as little as what isn't there
pub due-put :
    (now : ℕ) (e : PlainEntry) (es : List PlainEntry) → IsInOrder es → now < deadline_of e.standing
    → due_list now (put e es) ≡ due_list now (without e.ticket es)
due-put now e [] order lt = let no : nat_le (deadline_of e.standing) now ≡ false = grind (arith, nat_tests) in
    rw no refl
due-put now e (x ∷ xs) order lt =
    let no : nat_le (deadline_of e.standing) now ≡ false = grind (arith, nat_tests) in
    elim (compared x.ticket e.ticket) [
      | inl less ↦
          let rest = ap (with_due now x) (due-put now e xs order.1 lt) in
          rw (put-after e x xs less, differs x.ticket e.ticket (omega arith)) (due-cons now x (put e xs) ∙ rest
          ∙ sym (due-cons now x (without e.ticket xs)))
      | inr (inl at) ↦
          let absent = without-absent e.ticket xs (find-above x.ticket e.ticket xs (omega arith) order.0) in
          rw (put-same e x xs at order.0, same x.ticket e.ticket at, absent, no) refl
      | inr (inr more) ↦
          let absent = without-absent e.ticket xs (find-above x.ticket e.ticket xs (omega arith) order.0) in
          rw (put-before e x xs more order.0, differs x.ticket e.ticket (omega arith), absent, no) refl
    ]

-- One after the other

-- the last of later dues isn't before an earlier one
last-later :
    (d x : Due) (xs : List Due) → is_before d x ≡ true
    → AllByRecursion (λ y. is_before d y ≡ true) xs → is_after (last_or (Some x) xs) d ≡ false
last-later d x [] here h = before_not_after d x here
last-later d x (y ∷ ys) here h = last-later d y ys h.0 h.1

all-front :
    (P : Due → Type 0) (xs ys : List Due) → AllByRecursion P (xs ++ ys) → AllByRecursion P xs
all-front P [] ys h = tt
all-front P (x ∷ xs) ys h = (h.0, all-front P xs ys h.1)

next-after :
    (d : Due) (ds rest : List Due) → AreInDueOrder (d ∷ ds ++ rest)
    → find (is_after (last_or (Some d) ds)) (d ∷ ds ++ rest) ≡ slice_get rest 0
next-after d [] [] h = rw (not_before_itself d) refl
next-after d [] (r ∷ rest) h = rw (not_before_itself d, h.0.0) refl
next-after d (x ∷ xs) rest h =
    let no = last-later d x xs h.0.0 (all-front (λ y. is_before d y ≡ true) xs rest h.0.1) in
    rw no (next-after x xs rest h.1)

-- the one after those that were read is the first of the rest
pub due-next :
    (now : ℕ) (es : List PlainEntry) (ds rest : List Due) → IsInOrder es
    → due_list now es ≡ ds ++ rest → due_after now (last_or None ds) es ≡ slice_get rest 0
due-next now es [] [] order h = rw h refl
due-next now es [] (r ∷ rest) order h = rw h refl
due-next now es (d ∷ ds) rest order h = rw h (next-after d ds rest (subst AreInDueOrder h (strict-due now es order)))
