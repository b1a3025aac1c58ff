-- A thread's own counts are sums of increments.
use Rattle.std.proofs.Common.{arith, ◌≡◌, ◌∙◌, ℕ, ◌+◌, ◌%◌, ◌^◌, ◌<◌, ◌==◌, ◌&&◌, Bool, List, [], ◌∷◌, Option, Some, None, length, ap, refl, sym, subst, inl, inr}
use Rattle.std.proofs.Common.{if◌then◌else◌, slice_index_or}
use Rattle.std.proofs.lemmas.Bool.{cases_eq, cases_lt, eq-eqb, ne_eqb}
use Rattle.std.proofs.lemmas.List.{get_or-set_other, get_or-set_same, get_or_past, length-set}
use Rattle.std.proofs.lemmas.List.Sums.{sum_by-cons}
use Rattle.roam_counters.proofs.SumLemmas.{are-of_events}
use Rattle.roam_counters.specs.Cells.{cell_of, holder_of}
use Rattle.roam_counters.specs.OwnCounts.{CountsAreSums, CountsView, count_of, list_of, raised, raised_all, raised_at, raised_by, raised_in}
use Rattle.roam_counters.specs.Sums.{counted, counted_by, same_holder}
use Rattle.roam_counters.specs.declared.cell.Holder.{Holder}
use Rattle.roam_counters.specs.declared.cell.Holder.TheVariants as holder
use Rattle.roam_counters.specs.declared.increments.Increment.{Increment}

-- a list keeps its length
raised_at-length : (l : List ℕ) (q more : ℕ) → length (raised_at l q more) ≡ length l
raised_at-length l q more = length-set l q ((slice_index_or l q 0 + more) % 2 ^ 64)

-- a count of a list rises where it is the one
raised_at-count : (l : List ℕ) (p q more : ℕ) → p < length l → slice_index_or l p 0 < 2 ^ 64 →
    slice_index_or (raised_at l q more) p 0 ≡ (slice_index_or l p 0 + (if q == p then more else 0)) % 2 ^ 64
raised_at-count l p q more within small =
    elim (cases_eq q p) as
    (λ _. slice_index_or (raised_at l q more) p 0 ≡ (slice_index_or l p 0 + (if q == p then more else 0)) % 2 ^ 64) [
      | inl same ↦
          subst
          (λ (k : ℕ). slice_index_or (raised_at l k more) p 0
          ≡ (slice_index_or l p 0 + (if k == p then more else 0)) % 2 ^ 64)
          (sym same)
          (get_or-set_same l p ((slice_index_or l p 0 + more) % 2 ^ 64) 0 within
          ∙ ap (λ (b : Bool). (slice_index_or l p 0 + (if b then more else 0)) % 2 ^ 64) (sym (eq-eqb p p refl)))
      | inr other ↦
          let here : slice_index_or l p 0 ≡ (slice_index_or l p 0 + 0) % 2 ^ 64 = omega (arith, small) in
          get_or-set_other l q p ((slice_index_or l q 0 + more) % 2 ^ 64) 0 (λ is. other (sym is)) ∙ here
          ∙ ap (λ (b : Bool). (slice_index_or l p 0 + (if b then more else 0)) % 2 ^ 64) (sym (ne_eqb q p other))
    ]

-- a number whose list has a count is one of them
within-lists : (lists : List (List ℕ)) (r p : ℕ) → p < length (slice_index_or lists r []) → r < length lists
within-lists lists r p within =
    elim (cases_lt r (length lists)) [
      | inl less ↦ less
      | inr past ↦ absurd (let none = ap length (get_or_past lists r [] past) in omega (arith, within, none))
    ]

-- of lists, each keeps its length
raised_in-length : (lists : List (List ℕ)) (r k q more : ℕ) →
    length (slice_index_or (raised_in lists k q more) r []) ≡ length (slice_index_or lists r [])
raised_in-length lists r k q more =
    elim (cases_eq k r) as
    (λ _. length (slice_index_or (raised_in lists k q more) r []) ≡ length (slice_index_or lists r [])) [
      | inl same ↦
          subst
          (λ (n : ℕ). length (slice_index_or (raised_in lists n q more) r []) ≡ length (slice_index_or lists r []))
          (sym same)
          (elim (cases_lt r (length lists)) as
          (λ _. length (slice_index_or (raised_in lists r q more) r []) ≡ length (slice_index_or lists r [])) [
            | inl less ↦
                ap length (get_or-set_same lists r (raised_at (slice_index_or lists r []) q more) [] less)
                ∙ raised_at-length (slice_index_or lists r []) q more
            | inr past ↦
                let long : length (raised_in lists r q more) ≡ length lists =
                length-set lists r (raised_at (slice_index_or lists r []) q more) in
                ap length (get_or_past (raised_in lists r q more) r [] (omega (arith, long, past)))
                ∙ sym (ap length (get_or_past lists r [] past))
          ])
      | inr other ↦
          ap length
          (get_or-set_other lists k r (raised_at (slice_index_or lists k []) q more) [] (λ is. other (sym is)))
    ]

-- and a count rises where it is the one
raised_in-count : (lists : List (List ℕ)) (r k p q more : ℕ) → p < length (slice_index_or lists r []) →
    slice_index_or (slice_index_or lists r []) p 0 < 2 ^ 64 →
    slice_index_or (slice_index_or (raised_in lists k q more) r []) p 0
    ≡ (slice_index_or (slice_index_or lists r []) p 0 + (if (k == r) && (q == p) then more else 0)) % 2 ^ 64
raised_in-count lists r k p q more within small =
    let l : List ℕ = slice_index_or lists r [] in
    elim (cases_eq k r) as
    (λ _. slice_index_or (slice_index_or (raised_in lists k q more) r []) p 0
    ≡ (slice_index_or l p 0 + (if (k == r) && (q == p) then more else 0)) % 2 ^ 64) [
      | inl same ↦
          subst
          (λ (n : ℕ). slice_index_or (slice_index_or (raised_in lists n q more) r []) p 0
          ≡ (slice_index_or l p 0 + (if (n == r) && (q == p) then more else 0)) % 2 ^ 64)
          (sym same)
          (ap (λ (x : List ℕ). slice_index_or x p 0)
          (get_or-set_same lists r (raised_at l q more) [] (within-lists lists r p within))
          ∙ raised_at-count l p q more within small
          ∙ ap (λ (b : Bool). (slice_index_or l p 0 + (if b && (q == p) then more else 0)) % 2 ^ 64)
          (sym (eq-eqb r r refl)))
      | inr other ↦
          let here : slice_index_or l p 0 ≡ (slice_index_or l p 0 + 0) % 2 ^ 64 = omega (arith, small) in
          ap (λ (x : List ℕ). slice_index_or x p 0)
          (get_or-set_other lists k r (raised_at (slice_index_or lists k []) q more) [] (λ is. other (sym is)))
          ∙ here
          ∙ ap (λ (b : Bool). (slice_index_or l p 0 + (if b && (q == p) then more else 0)) % 2 ^ 64)
          (sym (ne_eqb k r other))
    ]

-- nothing of another list rises
unraised : (n : ℕ) → n < 2 ^ 64 → n ≡ (n + 0) % 2 ^ 64
unraised n small = omega (arith, small)

-- whatever rises, each list keeps its length
raised-length : (c : CountsView) (k h : Holder) (q more : ℕ) →
    length (list_of (raised c k q more) h) ≡ length (list_of c h)
raised-length c holder.Server holder.Server q more = raised_at-length c.server q more
raised-length c holder.Server (holder.Realm r) q more = refl
raised-length c holder.Server (holder.Peer r) q more = refl
raised-length c (holder.Realm k) holder.Server q more = refl
raised-length c (holder.Realm k) (holder.Realm r) q more = raised_in-length c.realms r k q more
raised-length c (holder.Realm k) (holder.Peer r) q more = refl
raised-length c (holder.Peer k) holder.Server q more = refl
raised-length c (holder.Peer k) (holder.Realm r) q more = refl
raised-length c (holder.Peer k) (holder.Peer r) q more = raised_in-length c.peers r k q more

-- and a count rises where it is the one
raised-count : (c : CountsView) (k h : Holder) (p q more : ℕ) → p < length (list_of c h) →
    slice_index_or (list_of c h) p 0 < 2 ^ 64 →
    slice_index_or (list_of (raised c k q more) h) p 0
    ≡ (slice_index_or (list_of c h) p 0 + (if same_holder k h && (q == p) then more else 0)) % 2 ^ 64
raised-count c holder.Server holder.Server p q more within small = raised_at-count c.server p q more within small
raised-count c holder.Server (holder.Realm r) p q more within small =
    unraised (slice_index_or (slice_index_or c.realms r []) p 0) small
raised-count c holder.Server (holder.Peer r) p q more within small =
    unraised (slice_index_or (slice_index_or c.peers r []) p 0) small
raised-count c (holder.Realm k) holder.Server p q more within small =
    unraised (slice_index_or c.server p 0) small
raised-count c (holder.Realm k) (holder.Realm r) p q more within small =
    raised_in-count c.realms r k p q more within small
raised-count c (holder.Realm k) (holder.Peer r) p q more within small =
    unraised (slice_index_or (slice_index_or c.peers r []) p 0) small
raised-count c (holder.Peer k) holder.Server p q more within small =
    unraised (slice_index_or c.server p 0) small
raised-count c (holder.Peer k) (holder.Realm r) p q more within small =
    unraised (slice_index_or (slice_index_or c.realms r []) p 0) small
raised-count c (holder.Peer k) (holder.Peer r) p q more within small =
    raised_in-count c.peers r k p q more within small

-- by one increment
by-length : (c : CountsView) (h : Holder) (i : Option Increment) →
    length (list_of (raised_by c i) h) ≡ length (list_of c h)
by-length c h None = refl
by-length c h (Some i) = raised-length c (holder_of i.subject) h (cell_of i.subject i.event) i.count

by-count : (c : CountsView) (h : Holder) (p : ℕ) (i : Option Increment) → p < length (list_of c h) →
    slice_index_or (list_of c h) p 0 < 2 ^ 64 →
    slice_index_or (list_of (raised_by c i) h) p 0
    ≡ (slice_index_or (list_of c h) p 0 + counted_by h p i) % 2 ^ 64
by-count c h p None within small = unraised (slice_index_or (list_of c h) p 0) small
by-count c h p (Some i) within small =
    raised-count c (holder_of i.subject) h p (cell_of i.subject i.event) i.count within small

-- by all of some
all-count : (c : CountsView) (h : Holder) (p : ℕ) (is : List (Option Increment)) → p < length (list_of c h) →
    slice_index_or (list_of c h) p 0 < 2 ^ 64 →
    slice_index_or (list_of (raised_all c is) h) p 0
    ≡ (slice_index_or (list_of c h) p 0 + counted h p is) % 2 ^ 64
all-count c h p [] within small = unraised (slice_index_or (list_of c h) p 0) small
all-count c h p (i ∷ is) within small =
    let one = by-count c h p i within small in
    let long = by-length c h i in
    let others =
    all-count (raised_by c i) h p is (omega (arith, long, within)) (omega (arith, one)) in
    let sum = sum_by-cons (counted_by h p) i is in
    omega (arith, one, others, sum)

pub are-sums : CountsAreSums
are-sums c s e is within small =
    all-count c (holder_of s) (cell_of s e) is within small
    ∙ ap (λ (n : ℕ). (count_of c s e + n) % 2 ^ 64) (are-of_events s e is)
