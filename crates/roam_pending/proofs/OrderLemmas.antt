-- Lists in order of ticket, and what a new, a changed or a gone entry makes of them.
use Rattle.std.proofs.Common.{◌≡◌, ◌≢◌, ℕ, ◌<◌, ◌≤◌, Bool, true, false, List, [], ◌∷◌, Option, Some, None, refl, ap, sym, ◌∙◌, subst, arith, eqb, inl, inr, IsSomeAnd}
use Rattle.std.specs.List.{AllByRecursion, filter}
use Rattle.std.proofs.lemmas.Bool.{cases_Bool}
use Rattle.roam_pending.specs.declared.key.Key.{Key}
use Rattle.roam_pending.specs.PlainEntry.{PlainEntry, has_ticket, same_key}
use Rattle.roam_pending.specs.EntryList.{IsInOrder, HasDistinctKeys, IsEntryList, IsNew, HasPlaceOf, find_client, find_ticket, without, below, above, put}
use Rattle.roam_pending.proofs.TestLemmas.{same, differs, less, not_less, compared, key_is_same, all-filter, all-append, all-find, all-weaker}

-- all tickets are above s
abbrev pub IsAbove : ℕ → List PlainEntry → Type 0
IsAbove s es = AllByRecursion (λ e. s < e.ticket) es

-- no entry has the key
abbrev pub IsOfOthers : Key → List PlainEntry → Type 0
IsOfOthers k es = AllByRecursion (λ e. e.request.key ≢ k) es

pub below-none : (s t : ℕ) (es : List PlainEntry) → t ≤ s → IsAbove s es → below t es ≡ []
below-none s t [] le h = refl
below-none s t (e ∷ es) le h =
    let no : s < e.ticket = h.0 in
    rw (not_less e.ticket t (omega arith)) (below-none s t es le h.1)

pub above-all : (s t : ℕ) (es : List PlainEntry) → t ≤ s → IsAbove s es → above t es ≡ es
above-all s t [] le h = refl
above-all s t (e ∷ es) le h =
    let yes : s < e.ticket = h.0 in
    rw (less t e.ticket (omega arith)) (ap (λ (l : List PlainEntry). e ∷ l) (above-all s t es le h.1))

pub find-above : (s t : ℕ) (es : List PlainEntry) → t ≤ s → IsAbove s es → find_ticket t es ≡ None
find-above s t [] le h = refl
find-above s t (e ∷ es) le h =
    let no : s < e.ticket = h.0 in
    rw (differs e.ticket t (omega arith)) (find-above s t es le h.1)

-- an entry in a list whose first has a lesser ticket, the same, or a greater one
pub put-after :
    (e x : PlainEntry) (xs : List PlainEntry) → x.ticket < e.ticket → put e (x ∷ xs) ≡ x ∷ put e xs
put-after e x xs lt = rw (less x.ticket e.ticket lt, not_less e.ticket x.ticket (omega arith)) refl

pub put-same :
    (e x : PlainEntry) (xs : List PlainEntry) → x.ticket ≡ e.ticket → IsAbove x.ticket xs
    → put e (x ∷ xs) ≡ e ∷ xs
put-same e x xs at h =
    let low = below-none x.ticket e.ticket xs (omega arith) h in
    let high = above-all x.ticket e.ticket xs (omega arith) h in
    rw (not_less x.ticket e.ticket (omega arith), not_less e.ticket x.ticket (omega arith), low, high) refl

pub put-before :
    (e x : PlainEntry) (xs : List PlainEntry) → e.ticket < x.ticket → IsAbove x.ticket xs
    → put e (x ∷ xs) ≡ e ∷ x ∷ xs
put-before e x xs lt h =
    let low = below-none x.ticket e.ticket xs (omega arith) h in
    let high = above-all x.ticket e.ticket xs (omega arith) h in
    rw (not_less x.ticket e.ticket (omega arith), less e.ticket x.ticket lt, low, high) refl

-- what holds of e and of each entry holds of each afterwards
pub all-put :
    (P : PlainEntry → Type 0) (e : PlainEntry) (es : List PlainEntry) → P e → AllByRecursion P es
    → AllByRecursion P (put e es)
all-put P e es here h = all-append P (below e.ticket es) (e ∷ above e.ticket es) (all-filter P _ es h) (
  here,
  all-filter P _ es h,
)

pub order-put : (e : PlainEntry) (es : List PlainEntry) → IsInOrder es → IsInOrder (put e es)
order-put e [] h = (tt, tt)
order-put e (x ∷ xs) h =
    elim (compared x.ticket e.ticket) [
      | inl lt ↦ rw (put-after e x xs lt) (all-put (λ y. x.ticket < y.ticket) e xs lt h.0, order-put e xs h.1)
      | inr (inl at) ↦ rw (put-same e x xs at h.0) (subst (λ (n : ℕ). IsAbove n xs) at h.0, h.1)
      | inr (inr gt) ↦ rw (put-before e x xs gt h.0)
          ((gt, all-weaker (λ y. x.ticket < y.ticket) (λ y. e.ticket < y.ticket) xs (λ y k. omega arith) h.0), h)
    ]

pub order-filter :
    (p : PlainEntry → Bool) (es : List PlainEntry) → IsInOrder es → IsInOrder (filter p es)
order-filter p [] h = tt
order-filter p (e ∷ es) h =
    elim (cases_Bool (p e)) [
      | inl y ↦ rw y (all-filter (λ x. e.ticket < x.ticket) p es h.0, order-filter p es h.1)
      | inr n ↦ rw n (order-filter p es h.1)
    ]

pub keys-filter :
    (p : PlainEntry → Bool) (es : List PlainEntry) → HasDistinctKeys es
    → HasDistinctKeys (filter p es)
keys-filter p [] h = tt
keys-filter p (e ∷ es) h =
    elim (cases_Bool (p e)) [
      | inl y ↦ rw y (all-filter (λ x. x.request.key ≢ e.request.key) p es h.0, keys-filter p es h.1)
      | inr n ↦ rw n (keys-filter p es h.1)
    ]

-- a key that isn't found is nobody's
pub others-none : (k : Key) (es : List PlainEntry) → find_client k es ≡ None → IsOfOthers k es
others-none k [] h = tt
others-none k (e ∷ es) h =
    elim (cases_Bool (same_key e.request.key k)) [
      | inl y ↦ absurd (let some : Some e ≡ None = rw y at h in cc)
      | inr n ↦ (
        λ at. let yes : same_key e.request.key k ≡ true = rw at (key_is_same k) in let no : true ≡ false =
            sym yes ∙ n in cc,
        others-none k es (rw n at h),
      )
    ]

-- a new entry
pub keys-new :
    (e : PlainEntry) (es : List PlainEntry) → IsInOrder es → HasDistinctKeys es
    → IsOfOthers e.request.key es → HasDistinctKeys (put e es)
keys-new e [] order h new = (tt, tt)
keys-new e (x ∷ xs) order h new =
    elim (compared x.ticket e.ticket) [
      | inl lt ↦ rw (put-after e x xs lt) (
        all-put (λ y. y.request.key ≢ x.request.key) e xs (λ at. new.0 (sym at)) h.0,
        keys-new e xs order.1 h.1 new.1,
      )
      | inr (inl at) ↦ rw (put-same e x xs at order.0) (new.1, h.1)
      | inr (inr gt) ↦ rw (put-before e x xs gt order.0) (new, h)
    ]

-- the entry of this ticket has the key
abbrev pub HasKeyAt : ℕ → Key → List PlainEntry → Type 0
HasKeyAt t k es = (old : PlainEntry) × (find_ticket t es ≡ Some old) × (old.request.key ≡ k)

key_from :
    (e : PlainEntry) (es : List PlainEntry) (o : Option PlainEntry) → find_ticket e.ticket es ≡ o
    → IsSomeAnd o (λ old. old.request.key ≡ e.request.key) → HasKeyAt e.ticket e.request.key es
key_from e es None at h = absurd h
key_from e es (Some old) at h = (old, at, h)

pub has_key_at :
    (e : PlainEntry) (es : List PlainEntry) → HasPlaceOf e es → HasKeyAt e.ticket e.request.key es
has_key_at e es h = key_from e es (find_ticket e.ticket es) refl h

-- further on in the list
key_later :
    (t : ℕ) (k : Key) (x : PlainEntry) (xs : List PlainEntry) → x.ticket ≢ t → HasKeyAt t k (x ∷ xs)
    → HasKeyAt t k xs
key_later t k x xs ne h = (h.0, rw (differs x.ticket t ne) at h.1, h.2)

-- at its head
key_here :
    (t : ℕ) (k : Key) (x : PlainEntry) (xs : List PlainEntry) → x.ticket ≡ t → HasKeyAt t k (x ∷ xs)
    → x.request.key ≡ k
key_here t k x xs at h =
    let some : Some x ≡ Some h.0 = rw (same x.ticket t at) at h.1 in
    let is : x ≡ h.0 = cc in
    ap (λ (y : PlainEntry). y.request.key) is ∙ h.2

-- an entry in place of another of its key
pub keys-changed :
    (e : PlainEntry) (es : List PlainEntry) → IsInOrder es → HasDistinctKeys es
    → HasKeyAt e.ticket e.request.key es → HasDistinctKeys (put e es)
keys-changed e [] order h at = (tt, tt)
keys-changed e (x ∷ xs) order h at =
    elim (compared x.ticket e.ticket) [
      | inl lt ↦
          let later = key_later e.ticket e.request.key x xs (omega arith) at in
          let old = all-find (λ y. y.request.key ≢ x.request.key) (has_ticket e.ticket) xs later.0 later.1 h.0 in
          rw (put-after e x xs lt) (
            all-put (λ y. y.request.key ≢ x.request.key) e xs (λ is. old (later.2 ∙ is)) h.0,
            keys-changed e xs order.1 h.1 later,
          )
      | inr (inl eq) ↦
          let here = key_here e.ticket e.request.key x xs eq at in
          rw (put-same e x xs eq order.0) (subst (λ (k : Key). IsOfOthers k xs) here h.0, h.1)
      | inr (inr gt) ↦
          let none : find_ticket e.ticket (x ∷ xs) ≡ None =
          rw (differs x.ticket e.ticket (omega arith)) (find-above x.ticket e.ticket xs (omega arith) order.0) in
          absurd (let some : None ≡ Some at.0 = sym none ∙ at.1 in cc)
    ]

-- what each change leaves is again a realm's list
pub list-new :
    (e : PlainEntry) (es : List PlainEntry) → IsEntryList es → IsNew e es → IsEntryList (put e es)
list-new e es h new = record {
  in_order = order-put e es h.in_order;
  distinct_keys = keys-new e es h.in_order h.distinct_keys (others-none e.request.key es new.key);
}

pub list-changed :
    (e : PlainEntry) (es : List PlainEntry) → IsEntryList es → HasPlaceOf e es
    → IsEntryList (put e es)
list-changed e es h place = record {
  in_order = order-put e es h.in_order;
  distinct_keys = keys-changed e es h.in_order h.distinct_keys (has_key_at e es place);
}

pub list-without : (t : ℕ) (es : List PlainEntry) → IsEntryList es → IsEntryList (without t es)
list-without t es h = record {
  in_order = order-filter _ es h.in_order;
  distinct_keys = keys-filter _ es h.distinct_keys;
}

-- an entry that isn't there
pub without-absent : (t : ℕ) (es : List PlainEntry) → find_ticket t es ≡ None → without t es ≡ es
without-absent t [] h = refl
without-absent t (e ∷ es) h =
    elim (cases_Bool (eqb e.ticket t)) [
      | inl y ↦ absurd (let some : Some e ≡ None = rw y at h in cc)
      | inr n ↦ rw n (ap (λ (l : List PlainEntry). e ∷ l) (without-absent t es (rw n at h)))
    ]
