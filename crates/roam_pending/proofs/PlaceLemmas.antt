-- The place of a ticket among the code's entries.
use Rattle.std.proofs.Common.{◌≡◌, ◌≢◌, ℕ, ◌<◌, List, [], ◌∷◌, Some, None, refl, ap, sym, ◌∙◌, arith, ltb, inl, inr, length, get_or, zero, suc}
use Rattle.std.specs.Prelude.{nat_lt}
use Rattle.std.specs.List.{count_by, filter, insert, remove}
use Rattle.std.proofs.Math.ListN.{set}
use Rattle.std.proofs.lemmas.Bool.{cases_Bool}
use Rattle.std.proofs.lemmas.List.Sums.{length-filter}
use Rattle.roam_pending.specs.declared.entry.Entry.{Entry}
use Rattle.roam_pending.specs.PlainEntry.{PlainEntry}
use Rattle.roam_pending.specs.EntryList.{IsInOrder, find_ticket, without, below, put}
use Rattle.roam_pending.specs.Shown.{shown, shown_all}
use Rattle.roam_pending.proofs.TestLemmas.{same, differs, less, not_less, compared}
use Rattle.roam_pending.proofs.OrderLemmas.{IsAbove, below-none, find-above, without-absent, put-after, put-same, put-before}

kept :
    {A : Type 0} (t : ℕ) (es : List (Entry A))
    → length (filter (λ e. nat_lt e.ticket t) es) ≡ length (below t (shown_all es))
kept t [] = refl
kept t (e ∷ es) =
    elim (cases_Bool (ltb e.ticket t)) [
      | inl y ↦ rw y (ap suc (kept t es))
      | inr n ↦ rw n (kept t es)
    ]

-- how many entries have a lesser ticket
pub count_below-length :
    {A : Type 0} (t : ℕ) (es : List (Entry A))
    → count_by (λ e. nat_lt e.ticket t) es ≡ length (below t (shown_all es))
count_below-length {A} t es = sym (length-filter (λ (e : Entry A). nat_lt e.ticket t) es) ∙ kept t es

-- no entry has a ticket where the one at its place has another
pub missing :
    {A : Type 0} (t : ℕ) (es : List (Entry A)) (i : ℕ) → IsInOrder (shown_all es)
    → i ≡ length (below t (shown_all es))
    → (i < length es → (d : Entry A) → (get_or es i d).ticket ≢ t)
    → find_ticket t (shown_all es) ≡ None
missing t [] i order at h = refl
missing t (e ∷ es) zero order at h =
    elim (compared e.ticket t) [
      | inl lt ↦ absurd (let k : 0 ≡ suc (length (below t (shown_all es))) = rw (less e.ticket t lt) at at in
          omega arith)
      | inr (inl eq) ↦ absurd (h (omega arith) e eq)
      | inr (inr gt) ↦ rw (differs e.ticket t (omega arith))
          (find-above e.ticket t (shown_all es) (omega arith) order.0)
    ]
missing t (e ∷ es) (suc i) order at h =
    elim (compared e.ticket t) [
      | inl lt ↦ let k : suc i ≡ suc (length (below t (shown_all es))) = rw (less e.ticket t lt) at at in
          rw (differs e.ticket t (omega arith)) (missing t es i order.1 (omega arith) (λ lt d. h (omega arith) d))
      | inr (inl eq) ↦ absurd (let k : suc i ≡ length (below t (shown_all es)) =
          rw (not_less e.ticket t (omega arith)) at at in let none =
          below-none e.ticket t (shown_all es) (omega arith) order.0 in let l : suc i ≡ 0 = k ∙ ap length none in
          omega arith)
      | inr (inr gt) ↦ rw (differs e.ticket t (omega arith))
          (find-above e.ticket t (shown_all es) (omega arith) order.0)
    ]

-- an entry stands in order where there are as many before it as have a lesser ticket
pub put_at :
    {A : Type 0} (x : Entry A) (es : List (Entry A)) (i : ℕ) → IsInOrder (shown_all es)
    → find_ticket x.ticket (shown_all es) ≡ None → i ≡ length (below x.ticket (shown_all es))
    → shown_all (insert es i x) ≡ put (shown x) (shown_all es)
put_at x [] zero order new at = refl
put_at x [] (suc i) order new at = absurd (omega arith)
put_at x (e ∷ es) zero order new at =
    elim (compared e.ticket x.ticket) [
      | inl lt ↦ absurd (let k : 0 ≡ suc (length (below x.ticket (shown_all es))) =
          rw (less e.ticket x.ticket lt) at at in omega arith)
      | inr (inl eq) ↦ absurd (let k : Some (shown e) ≡ None = rw (same e.ticket x.ticket eq) at new in cc)
      | inr (inr gt) ↦ sym (put-before (shown x) (shown e) (shown_all es) gt order.0)
    ]
put_at x (e ∷ es) (suc i) order new at =
    elim (compared e.ticket x.ticket) [
      | inl lt ↦ let k : suc i ≡ suc (length (below x.ticket (shown_all es))) = rw (less e.ticket x.ticket lt) at at in
          let rest = put_at x es i order.1 (rw (differs e.ticket x.ticket (omega arith)) at new) (omega arith) in
          ap (λ (l : List PlainEntry). shown e ∷ l) rest ∙ sym (put-after (shown x) (shown e) (shown_all es) lt)
      | inr (inl eq) ↦ absurd (let k : Some (shown e) ≡ None = rw (same e.ticket x.ticket eq) at new in cc)
      | inr (inr gt) ↦ absurd (let k : suc i ≡ length (below x.ticket (shown_all es)) =
          rw (not_less e.ticket x.ticket (omega arith)) at at in let none =
          below-none e.ticket x.ticket (shown_all es) (omega arith) order.0 in let l : suc i ≡ 0 = k
          ∙ ap length none in omega arith)
    ]

-- the ticket at a later place is greater
above_at :
    {A : Type 0} (t : ℕ) (es : List (Entry A)) (i : ℕ) (d : Entry A) → i < length es
    → IsAbove t (shown_all es) → t < (get_or es i d).ticket
above_at t [] i d lt h = absurd (omega arith)
above_at t (e ∷ es) zero d lt h = h.0
above_at t (e ∷ es) (suc i) d lt h = above_at t es i d (omega arith) h.1

pub found_at :
    {A : Type 0} (t : ℕ) (es : List (Entry A)) (i : ℕ) (d : Entry A) → i < length es
    → (get_or es i d).ticket ≡ t → IsInOrder (shown_all es)
    → find_ticket t (shown_all es) ≡ Some (shown (get_or es i d))
found_at t [] i d lt at order = absurd (omega arith)
found_at t (e ∷ es) zero d lt at order = rw (same e.ticket t at) refl
found_at t (e ∷ es) (suc i) d lt at order =
    let later = above_at e.ticket es i d (omega arith) order.0 in
    rw (differs e.ticket t (omega arith)) (found_at t es i d (omega arith) at order.1)

pub removed_at :
    {A : Type 0} (t : ℕ) (es : List (Entry A)) (i : ℕ) (d : Entry A) → i < length es
    → (get_or es i d).ticket ≡ t → IsInOrder (shown_all es)
    → shown_all (remove es i) ≡ without t (shown_all es)
removed_at t [] i d lt at order = absurd (omega arith)
removed_at t (e ∷ es) zero d lt at order =
    rw (same e.ticket t at) (sym (without-absent t (shown_all es)
    (find-above e.ticket t (shown_all es) (omega arith) order.0)))
removed_at t (e ∷ es) (suc i) d lt at order =
    let later = above_at e.ticket es i d (omega arith) order.0 in
    rw (differs e.ticket t (omega arith))
    (ap (λ (l : List PlainEntry). shown e ∷ l) (removed_at t es i d (omega arith) at order.1))

pub changed_at :
    {A : Type 0} (x : Entry A) (es : List (Entry A)) (i : ℕ) (d : Entry A) → i < length es
    → (get_or es i d).ticket ≡ x.ticket → IsInOrder (shown_all es)
    → shown_all (set es i x) ≡ put (shown x) (shown_all es)
changed_at x [] i d lt at order = absurd (omega arith)
changed_at x (e ∷ es) zero d lt at order = sym (put-same (shown x) (shown e) (shown_all es) at order.0)
changed_at x (e ∷ es) (suc i) d lt at order =
    let later = above_at e.ticket es i d (omega arith) order.0 in
    ap (λ (l : List PlainEntry). shown e ∷ l) (changed_at x es i d (omega arith) at order.1)
    ∙ sym (put-after (shown x) (shown e) (shown_all es) (omega arith))
