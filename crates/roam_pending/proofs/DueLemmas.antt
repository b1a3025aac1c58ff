-- The list of what is due, and the least of it.
use Rattle.std.proofs.Common.{◌≡◌, ℕ, ◌+◌, ◌<◌, ◌≤◌, Bool, true, false, List, [], ◌∷◌, Option, Some, None, refl, ap, sym, ◌∙◌, arith, inl, inr, length, get_or, drop, drop-cons, add-one}
use Rattle.std.specs.Prelude.{map, if◌then◌else◌}
use Rattle.std.specs.List.{AllByRecursion, filter, find}
use Rattle.std.proofs.lemmas.Bool.{cases_Bool}
use Rattle.std.proofs.lemmas.Bool.Decides.{nat_tests}
use Rattle.std.proofs.lemmas.List.{drop_all}
use Rattle.roam_pending.specs.declared.due.Due.{Due}
use Rattle.roam_pending.specs.declared.entry.Entry.{Entry}
use Rattle.roam_pending.specs.PlainEntry.{PlainEntry}
use Rattle.roam_pending.specs.DueOrder.{is_before, into, in_order, due_at, is_due, due_list, is_after, due_after}
use Rattle.roam_pending.specs.Private.DueSearch.{due_alone, lesser, earlier}
use Rattle.roam_pending.specs.Shown.{shown, shown_all}

-- no due of the list comes before d
abbrev pub IsNotAfter : Due → List Due → Type 0
IsNotAfter d ds = AllByRecursion (λ x. is_before x d ≡ false) ds

-- none comes before an earlier one
abbrev pub IsRising : List Due → Type 0
IsRising [] = Unit {0}
IsRising (d ∷ ds) = IsNotAfter d ds × IsRising ds

not_both : (a b : Due) → is_before a b ≡ true → is_before b a ≡ false
not_both a b h = grind (arith, nat_tests, h)

-- c isn't before b, nor b before a
not_before : (a b c : Due) → is_before b a ≡ false → is_before c b ≡ false → is_before c a ≡ false
not_before a b c h k = grind (arith, nat_tests, h, k)

-- c is before b, and b before a
before_both : (a b c : Due) → is_before b a ≡ true → is_before c b ≡ true → is_before c a ≡ true
before_both a b c h k = grind (arith, nat_tests, h, k)

not_after-into :
    (d x : Due) (ds : List Due) → is_before x d ≡ false → IsNotAfter d ds → IsNotAfter d (into x ds)
not_after-into d x [] h k = (h, tt)
not_after-into d x (y ∷ ys) h k =
    elim (cases_Bool (is_before y x)) [
      | inl b ↦ rw b (k.0, not_after-into d x ys h k.1)
      | inr n ↦ rw n (h, k)
    ]

pub not_after-further :
    (a b : Due) (ds : List Due) → is_before b a ≡ false → IsNotAfter b ds → IsNotAfter a ds
not_after-further a b [] h k = tt
not_after-further a b (c ∷ cs) h k = (not_before a b c h k.0, not_after-further a b cs h k.1)

rising-into : (x : Due) (ds : List Due) → IsRising ds → IsRising (into x ds)
rising-into x [] h = (tt, tt)
rising-into x (y ∷ ys) h =
    elim (cases_Bool (is_before y x)) [
      | inl b ↦ rw b (not_after-into y x ys (not_both y x b) h.0, rising-into x ys h.1)
      | inr n ↦ rw n ((n, not_after-further x y ys n h.0), h)
    ]

pub rising-in_order : (ds : List Due) → IsRising (in_order ds)
rising-in_order [] = tt
rising-in_order (d ∷ ds) = rising-into d (in_order ds) (rising-in_order ds)

pub rising-due_list : (now : ℕ) (es : List PlainEntry) → IsRising (due_list now es)
rising-due_list now es = rising-in_order (map due_at (filter (is_due now) es))

-- the due of an entry that passes
abbrev pub passing : (Due → Bool) → Due → Option Due
passing p d = if p d then Some d else None

-- one that no other comes before stays the least
lesser-first :
    (p : Due → Bool) (d : Due) (ds : List Due) → IsNotAfter d ds
    → Some d ≡ earlier (Some d) (find p ds)
lesser-first p d [] h = refl
lesser-first p d (x ∷ xs) h =
    elim (cases_Bool (p x)) [
      | inl y ↦ rw (y, h.0) refl
      | inr n ↦ rw n (lesser-first p d xs h.1)
    ]

-- the first that passes, with one more in its place
find-into :
    (p : Due → Bool) (d : Due) (ds : List Due) → IsRising ds
    → find p (into d ds) ≡ earlier (passing p d) (find p ds)
find-into p d [] h =
    elim (cases_Bool (p d)) [
      | inl y ↦ rw y refl
      | inr n ↦ rw n refl
    ]
find-into p d (x ∷ xs) h =
    elim (cases_Bool (is_before x d)) [
      | inl b ↦ elim (cases_Bool (p x)) [
        | inl y ↦ elim (cases_Bool (p d)) [
          | inl z ↦ rw (b, y, z, b) refl
          | inr n ↦ rw (b, y, n) refl
        ]
        | inr n ↦ rw (b, n) (find-into p d xs h.1)
      ]
      | inr a ↦ elim (cases_Bool (p d)) [
        | inl z ↦ rw (a, z) (lesser-first p d (x ∷ xs) (a, not_after-further d x xs a h.0))
        | inr n ↦ rw (a, n) refl
      ]
    ]

-- what is next due, by the first entry
pub due_after-cons :
    (now : ℕ) (last : Option Due) (e : PlainEntry) (es : List PlainEntry)
    → due_after now last (e ∷ es) ≡ earlier (due_alone now last e) (due_after now last es)
due_after-cons now last e es =
    elim (cases_Bool (is_due now e)) [
      | inl y ↦ rw y (find-into (is_after last) (due_at e) (due_list now es) (rising-due_list now es))
      | inr n ↦ rw n refl
    ]

lesser_assoc : (a b c : Due) → lesser a (lesser b c) ≡ lesser (lesser a b) c
lesser_assoc a b c =
    elim (cases_Bool (is_before c b)) [
      | inl cb ↦ elim (cases_Bool (is_before b a)) [
        | inl ba ↦ rw (cb, ba, before_both a b c ba cb, cb) refl
        | inr nba ↦ rw (cb, nba) refl
      ]
      | inr ncb ↦ elim (cases_Bool (is_before b a)) [
        | inl ba ↦ rw (ncb, ba, ncb) refl
        | inr nba ↦ rw (ncb, nba, not_before a b c nba ncb) refl
      ]
    ]

earlier_assoc : (a b c : Option Due) → earlier a (earlier b c) ≡ earlier (earlier a b) c
earlier_assoc None b c = refl
earlier_assoc (Some a) None c = refl
earlier_assoc (Some a) (Some b) None = refl
earlier_assoc (Some a) (Some b) (Some c) = ap Some (lesser_assoc a b c)

pub earlier_none : (a : Option Due) → earlier a None ≡ a
earlier_none None = refl
earlier_none (Some a) = refl

-- one turn of the search
pub due-turn :
    {A : Type 0} (now : ℕ) (last best : Option Due) (es : List (Entry A)) (i : ℕ) (e : Entry A)
    → i < length es → e ≡ get_or es i e
    → earlier best (due_after now last (shown_all (drop i es))) ≡ due_after now last (shown_all es)
    → earlier (earlier best (due_alone now last (shown e))) (due_after now last (shown_all (drop (i + 1) es)))
    ≡ due_after now last (shown_all es)
due-turn now last best es i e lt at inv =
    let front : shown_all (drop i es) ≡ shown e ∷ shown_all (drop (i + 1) es) =
    rw (drop-cons es i e, ← at, add-one) refl in
    let step = ap (λ (l : List PlainEntry). earlier best (due_after now last l)) front
    ∙ ap (earlier best) (due_after-cons now last (shown e) (shown_all (drop (i + 1) es))) in
    sym (earlier_assoc best (due_alone now last (shown e)) (due_after now last (shown_all (drop (i + 1) es))))
    ∙ sym step ∙ inv

-- its end
pub due-end :
    {A : Type 0} (now : ℕ) (last best : Option Due) (es : List (Entry A)) (i : ℕ) → length es ≤ i
    → earlier best (due_after now last (shown_all (drop i es))) ≡ due_after now last (shown_all es)
    → best ≡ due_after now last (shown_all es)
due-end {A} now last best es i past inv =
    sym (earlier_none best) ∙ ap (λ (l : List (Entry A)). earlier best (due_after now last (shown_all l)))
    (sym (drop_all i es past)) ∙ inv
