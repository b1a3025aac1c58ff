-- What a change of the list leaves to be found.
use Rattle.std.proofs.Common.{◌≡◌, ◌≢◌, ℕ, ◌+◌, ◌<◌, Bool, true, List, [], ◌∷◌, ◌++◌, Option, Some, None, refl, ap, sym, ◌∙◌, arith, cond, eqb, ltb, inl, inr, length}
use Rattle.std.specs.List.{find}
use Rattle.std.proofs.lemmas.Bool.{cases_Bool}
use Rattle.std.proofs.lemmas.Bool.Decides.{nat_tests}
use Rattle.std.proofs.lemmas.List.{append-nil}
use Rattle.std.proofs.lemmas.List.Elements.{filter-append}
use Rattle.roam_pending.specs.PlainEntry.{PlainEntry, PlainStanding, has_ticket}
use Rattle.roam_pending.specs.EntryList.{IsInOrder, HasPlaceOf, find_ticket, without, below, above, put}
use Rattle.roam_pending.specs.Realms.{with_standing}
use Rattle.roam_pending.proofs.TestLemmas.{same, differs, less, not_less, compared, all-find}
use Rattle.roam_pending.proofs.OrderLemmas.{find-above, put-after, put-same, put-before, without-absent}

-- what is found passes
pub find-passes :
    {X : Type 0} (p : X → Bool) (xs : List X) (y : X) → find p xs ≡ Some y → p y ≡ true
find-passes p [] y at = absurd (let k : None ≡ Some y = at in cc)
find-passes p (x ∷ xs) y at =
    elim (cases_Bool (p x)) [
      | inl t ↦ let k : Some x ≡ Some y = rw t at at in let e : x ≡ y = cc in rw (← e) t
      | inr n ↦ find-passes p xs y (rw n at at)
    ]

-- the entry of a ticket has it
pub found-ticket :
    (t : ℕ) (es : List PlainEntry) (e : PlainEntry) → find_ticket t es ≡ Some e → e.ticket ≡ t
found-ticket t es e at = let passes = find-passes (has_ticket t) es e at in grind (arith, nat_tests, passes)

-- what isn't found in the first part is looked for in the second
find-append :
    {X : Type 0} (p : X → Bool) (xs ys : List X) → find p xs ≡ None → find p (xs ++ ys) ≡ find p ys
find-append p [] ys h = refl
find-append p (x ∷ xs) ys h =
    elim (cases_Bool (p x)) [
      | inl t ↦ absurd (let k : Some x ≡ None = rw t at h in cc)
      | inr n ↦ rw n (find-append p xs ys (rw n at h))
    ]

find-below : (t : ℕ) (es : List PlainEntry) → find_ticket t (below t es) ≡ None
find-below t [] = refl
find-below t (e ∷ es) =
    elim (compared e.ticket t) [
      | inl lt ↦ rw (less e.ticket t lt, differs e.ticket t (omega arith)) (find-below t es)
      | inr (inl at) ↦ rw (not_less e.ticket t (omega arith)) (find-below t es)
      | inr (inr gt) ↦ rw (not_less e.ticket t (omega arith)) (find-below t es)
    ]

-- an entry that was put is found by its ticket
pub find-put : (e : PlainEntry) (es : List PlainEntry) → find_ticket e.ticket (put e es) ≡ Some e
find-put e es = find-append (has_ticket e.ticket) (below e.ticket es) (e ∷ above e.ticket es)
    (find-below e.ticket es) ∙ rw (same e.ticket e.ticket refl) refl

below-below : (t : ℕ) (es : List PlainEntry) → below t (below t es) ≡ below t es
below-below t [] = refl
below-below t (e ∷ es) =
    elim (cases_Bool (ltb e.ticket t)) [
      | inl y ↦ rw (y, y) (ap (λ (l : List PlainEntry). e ∷ l) (below-below t es))
      | inr n ↦ rw n (below-below t es)
    ]

above-above : (t : ℕ) (es : List PlainEntry) → above t (above t es) ≡ above t es
above-above t [] = refl
above-above t (e ∷ es) =
    elim (cases_Bool (ltb t e.ticket)) [
      | inl y ↦ rw (y, y) (ap (λ (l : List PlainEntry). e ∷ l) (above-above t es))
      | inr n ↦ rw n (above-above t es)
    ]

above-below : (t : ℕ) (es : List PlainEntry) → above t (below t es) ≡ []
above-below t [] = refl
above-below t (e ∷ es) =
    elim (compared e.ticket t) [
      | inl lt ↦ rw (less e.ticket t lt, not_less t e.ticket (omega arith)) (above-below t es)
      | inr (inl at) ↦ rw (not_less e.ticket t (omega arith)) (above-below t es)
      | inr (inr gt) ↦ rw (not_less e.ticket t (omega arith)) (above-below t es)
    ]

below-above : (t : ℕ) (es : List PlainEntry) → below t (above t es) ≡ []
below-above t [] = refl
below-above t (e ∷ es) =
    elim (compared e.ticket t) [
      | inl lt ↦ rw (not_less t e.ticket (omega arith)) (below-above t es)
      | inr (inl at) ↦ rw (not_less t e.ticket (omega arith)) (below-above t es)
      | inr (inr gt) ↦ rw (less t e.ticket gt, not_less e.ticket t (omega arith)) (below-above t es)
    ]

below-put :
    (t : ℕ) (x : PlainEntry) (es : List PlainEntry) → x.ticket ≡ t
    → below t (below t es ++ x ∷ above t es) ≡ below t es
below-put t x es at =
    let parts = filter-append (λ (e : PlainEntry). ltb e.ticket t) (below t es) (x ∷ above t es) in
    parts ∙ rw (below-below t es, not_less x.ticket t (omega arith), below-above t es) (append-nil (below t es))

above-put :
    (t : ℕ) (x : PlainEntry) (es : List PlainEntry) → x.ticket ≡ t
    → above t (below t es ++ x ∷ above t es) ≡ above t es
above-put t x es at =
    let parts = filter-append (λ (e : PlainEntry). ltb t e.ticket) (below t es) (x ∷ above t es) in
    parts ∙ rw (above-below t es, not_less t x.ticket (omega arith)) (above-above t es)

-- the later of two entries of one ticket stands there
pub put-put :
    (e x : PlainEntry) (es : List PlainEntry) → x.ticket ≡ e.ticket → put e (put x es) ≡ put e es
put-put e x es at =
    let split : put x es ≡ below e.ticket es ++ x ∷ above e.ticket es = rw at refl in
    ap (put e) split ∙ rw (below-put e.ticket x es at, above-put e.ticket x es at) refl

below-without : (t : ℕ) (es : List PlainEntry) → below t (without t es) ≡ below t es
below-without t [] = refl
below-without t (e ∷ es) =
    elim (compared e.ticket t) [
      | inl lt ↦ rw (
        differs e.ticket t (omega arith),
        less e.ticket t lt,
      ) (ap (λ (l : List PlainEntry). e ∷ l) (below-without t es))
      | inr (inl at) ↦ rw (same e.ticket t at, not_less e.ticket t (omega arith)) (below-without t es)
      | inr (inr gt) ↦ rw (differs e.ticket t (omega arith), not_less e.ticket t (omega arith)) (below-without t es)
    ]

above-without : (t : ℕ) (es : List PlainEntry) → above t (without t es) ≡ above t es
above-without t [] = refl
above-without t (e ∷ es) =
    elim (compared e.ticket t) [
      | inl lt ↦ rw (differs e.ticket t (omega arith), not_less t e.ticket (omega arith)) (above-without t es)
      | inr (inl at) ↦ rw (same e.ticket t at, not_less t e.ticket (omega arith)) (above-without t es)
      | inr (inr gt) ↦ rw (
        differs e.ticket t (omega arith),
        less t e.ticket gt,
      ) (ap (λ (l : List PlainEntry). e ∷ l) (above-without t es))
    ]

-- to take an entry out and put another of its ticket back is to put that one in its place
pub put-without : (e : PlainEntry) (es : List PlainEntry) → put e (without e.ticket es) ≡ put e es
put-without e es = rw (below-without e.ticket es, above-without e.ticket es) refl

-- to take out what was put leaves the others
pub without-put :
    (e : PlainEntry) (es : List PlainEntry) → IsInOrder es
    → without e.ticket (put e es) ≡ without e.ticket es
without-put e [] h = rw (same e.ticket e.ticket refl) refl
without-put e (x ∷ xs) h =
    elim (compared x.ticket e.ticket) [
      | inl lt ↦ rw (
        put-after e x xs lt,
        differs x.ticket e.ticket (omega arith),
      ) (ap (λ (l : List PlainEntry). x ∷ l) (without-put e xs h.1))
      | inr (inl at) ↦ rw (put-same e x xs at h.0, same e.ticket e.ticket refl, same x.ticket e.ticket at) refl
      | inr (inr gt) ↦ rw (put-before e x xs gt h.0, same e.ticket e.ticket refl) refl
    ]

-- an entry that is put is nobody else's
pub find-put_other :
    (t : ℕ) (e : PlainEntry) (es : List PlainEntry) → IsInOrder es → t ≢ e.ticket
    → find_ticket t (put e es) ≡ find_ticket t es
find-put_other t e [] h ne = rw (differs e.ticket t (λ at. ne (sym at))) refl
find-put_other t e (x ∷ xs) h ne =
    let skip = differs e.ticket t (λ at. ne (sym at)) in
    elim (compared x.ticket e.ticket) [
      | inl lt ↦ rw (put-after e x xs lt)
          (ap (λ (o : Option PlainEntry). cond (eqb x.ticket t) (Some x) o) (find-put_other t e xs h.1 ne))
      | inr (inl at) ↦ rw (put-same e x xs at h.0, skip, differs x.ticket t (λ is. ne (sym is ∙ at))) refl
      | inr (inr gt) ↦ rw (put-before e x xs gt h.0, skip) refl
    ]

-- an entry that is taken out isn't found, and every other one is
pub find-without : (t : ℕ) (es : List PlainEntry) → find_ticket t (without t es) ≡ None
find-without t [] = refl
find-without t (e ∷ es) =
    elim (cases_Bool (eqb e.ticket t)) [
      | inl y ↦ rw y (find-without t es)
      | inr n ↦ rw (n, n) (find-without t es)
    ]

pub find-without_other :
    (t s : ℕ) (es : List PlainEntry) → t ≢ s → find_ticket t (without s es) ≡ find_ticket t es
find-without_other t s [] ne = refl
find-without_other t s (e ∷ es) ne =
    elim (cases_Bool (eqb e.ticket s)) [
      | inl y ↦
          let at : e.ticket ≡ s = grind (arith, nat_tests, y) in
          rw (y, differs e.ticket t (λ is. ne (sym is ∙ at))) (find-without_other t s es ne)
      | inr n ↦ rw n (ap (λ (o : Option PlainEntry). cond (eqb e.ticket t) (Some e) o) (find-without_other t s es ne))
    ]

-- how many there are then
pub length-without :
    (t : ℕ) (es : List PlainEntry) (e : PlainEntry) → IsInOrder es → find_ticket t es ≡ Some e
    → length (without t es) + 1 ≡ length es
length-without t [] e h at = absurd (let k : None ≡ Some e = at in cc)
length-without t (x ∷ xs) e h at =
    elim (compared x.ticket t) [
      | inl lt ↦ let n = differs x.ticket t (omega arith) in let rest = length-without t xs e h.1 (rw n at at) in
          rw n (omega (arith, rest))
      | inr (inl is) ↦ let absent = without-absent t xs (find-above x.ticket t xs (omega arith) h.0) in
          rw (same x.ticket t is, absent) (omega arith)
      | inr (inr gt) ↦ let n = differs x.ticket t (omega arith) in let rest =
          length-without t xs e h.1 (rw n at at) in rw n (omega (arith, rest))
    ]

pub length-put :
    (e : PlainEntry) (es : List PlainEntry) → IsInOrder es
    → length (put e es) ≡ length (without e.ticket es) + 1
length-put e [] h = omega arith
length-put e (x ∷ xs) h =
    elim (compared x.ticket e.ticket) [
      | inl lt ↦ let rest = length-put e xs h.1 in
          rw (put-after e x xs lt, differs x.ticket e.ticket (omega arith)) (omega (arith, rest))
      | inr (inl at) ↦ let absent = without-absent e.ticket xs (find-above x.ticket e.ticket xs (omega arith) h.0) in
          rw (put-same e x xs at h.0, same x.ticket e.ticket at, absent) (omega arith)
      | inr (inr gt) ↦ let absent = without-absent e.ticket xs (find-above x.ticket e.ticket xs (omega arith) h.0) in
          rw (put-before e x xs gt h.0, differs x.ticket e.ticket (omega arith), absent) (omega arith)
    ]

-- whatever an entry is found by, it is the entry of its ticket
pub found-is :
    (p : PlainEntry → Bool) (es : List PlainEntry) (e : PlainEntry) → IsInOrder es
    → find p es ≡ Some e → find_ticket e.ticket es ≡ Some e
found-is p [] e h at = absurd (let k : None ≡ Some e = at in cc)
found-is p (x ∷ xs) e h at =
    elim (cases_Bool (p x)) [
      | inl t ↦ let k : Some x ≡ Some e = rw t at at in let is : x ≡ e = cc in rw (is, same e.ticket e.ticket refl) refl
      | inr n ↦
          let later = rw n at at in
          let lt = all-find (λ (y : PlainEntry). x.ticket < y.ticket) p xs e later h.0 in
          rw (differs x.ticket e.ticket (omega arith)) (found-is p xs e h.1 later)
    ]

-- an entry that stands otherwise has the place of the one that was found
pub place-of_standing :
    (t : ℕ) (standing : PlainStanding) (e : PlainEntry) (es : List PlainEntry)
    → find_ticket t es ≡ Some e → HasPlaceOf (with_standing standing e) es
place-of_standing t standing e es at =
    let here : find_ticket e.ticket es ≡ Some e = ap (λ (n : ℕ). find_ticket n es) (found-ticket t es e at) ∙ at in
    rw here refl
