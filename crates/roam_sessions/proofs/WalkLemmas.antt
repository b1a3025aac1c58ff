-- The open sessions of a group, one after the other.
use Rattle.std.proofs.Common.{◌≡◌, ℕ, true, false, ◌+◌, ◌-◌, ◌<◌, ◌≤◌, List, [], length, length-append, Option, Some, None, refl, sym, ap, ◌∙◌, arith}
use Rattle.std.specs.Prelude.{IsSome, option_and_then}
use Rattle.std.specs.List.{cons_option}
use Rattle.roam_wire.specs.Numbered.{listed, tickets_end}
use Rattle.roam_sessions.specs.Ended.{agreeing_of, if_there, open_count, some_count, where_open}
use Rattle.roam_sessions.specs.Private.Groups.{AreEndsOf, IsBesideOf, IsGrouped, PlainGroups, if_row, in_group, newer_of, oldest_of}
use Rattle.roam_sessions.specs.Private.Tickets.{IsFirstFrom, all_listed}
use Rattle.roam_sessions.specs.Sessions.{Asked, Session, agrees}
use Rattle.roam_sessions.specs.declared.ends.Ends.{Ends}
use Rattle.roam_sessions.specs.declared.neighbours.Beside.{Beside}
use Rattle.roam_sessions.proofs.GroupLemmas.{from-group, listed-bound}
use Rattle.roam_sessions.proofs.NewestLemmas.{listed-empty, listed-parts}

module _ {X : Type 0} where
  -- how many numbers have something, from one on
  abbrev pub count_from : (ℕ → Option X) → Option ℕ → ℕ
  count_from H None = 0
  count_from H (Some v) = length (listed H v (tickets_end - v))

  -- a number has something, if it is given
  abbrev pub IsHeldAt : (ℕ → Option X) → Option ℕ → Type 0
  IsHeldAt G None = Unit {0}
  IsHeldAt G (Some v) = IsSome (G v) × (v < tickets_end)

  one-count : (f : ℕ → Option X) (t : ℕ) → length (listed f t 1) ≡ some_count (f t)
  unfolding listed
  one-count f t = by (f t)
    where
      by : (o : Option X) → length (cons_option o []) ≡ some_count o
      by None = refl
      by (Some x) = refl

  -- the first of them, and those behind it
  pub count-step : (H : ℕ → Option X) (v : ℕ) → v < tickets_end
      → length (listed H v (tickets_end - v)) ≡ some_count (H v) + length (listed H (v + 1) (tickets_end - (v + 1)))
  count-step H v lt =
      let size : tickets_end - v ≡ 1 + (tickets_end - (v + 1)) = omega (arith, lt) in
      let parts = listed-parts H v 1 (tickets_end - (v + 1)) (tickets_end - v) size in
      ap (λ (l : List X). length l) parts
      ∙ length-append (listed H v 1) (listed H (v + 1) (tickets_end - (v + 1)))
      ∙ ap (λ (n : ℕ). n + length (listed H (v + 1) (tickets_end - (v + 1)))) (one-count H v)

-- those that pass of numbers that have something
module _ {X Y : Type 0} (G : ℕ → Option X) (H : ℕ → Option Y) (none : (u : ℕ) → G u ≡ None → H u ≡ None) where
  pub count-first : (least : ℕ) (o : Option ℕ) → least ≤ tickets_end → IsFirstFrom G least o → IsHeldAt G o
      → length (listed H least (tickets_end - least)) ≡ count_from H o
  count-first least None le first held =
      ap (λ (l : List Y). length l) (listed-empty H least (tickets_end - least) (λ u ge lt. none u (first u ge)))
  count-first least (Some v) le first held =
      let from = first.from in
      let below = held.1 in
      let size : tickets_end - least ≡ (v - least) + (tickets_end - v) = omega (arith, from, below) in
      let place : least + (v - least) ≡ v = omega (arith, from) in
      let parts = listed-parts H least (v - least) (tickets_end - v) (tickets_end - least) size in
      let front : listed H least (v - least) ≡ [] =
      listed-empty H least (v - least) (λ u ge lt. none u (first.none_before u ge (omega (arith, lt, place)))) in
      let sizes = ap (λ (l : List Y). length l) parts in
      let both = length-append (listed H least (v - least)) (listed H (least + (v - least)) (tickets_end - v)) in
      let nothing : length (listed H least (v - least)) ≡ 0 = ap (λ (l : List Y). length l) front in
      let rest = ap (λ (t : ℕ). length (listed H t (tickets_end - v))) place in
      omega (arith, sizes, both, nothing, rest)

module _ (O : ℕ → Option Session) (f : ℕ → Option (List ℕ)) (p : PlainGroups) (row : List ℕ)
    (grouped : IsGrouped f p) where
  abbrev pub G : ℕ → Option (List ℕ)
  G = in_group f row

  abbrev pub H : ℕ → Option (List ℕ)
  H = in_group (where_open O f) row

  -- what was counted of the group, and what is left to be counted
  pub record Walks (i count : ℕ) (at : Option ℕ) : Type 0 where
    pub held : IsHeldAt (in_group f row) at
    pub rest : count + count_from (in_group (where_open O f) row) at
        ≡ length (all_listed (in_group (where_open O f) row))
    pub left : i + count_from (in_group f row) at ≡ length (all_listed (in_group f row))

  none-there : (u : ℕ) → G u ≡ None → H u ≡ None
  none-there u is = by (O u) refl
    where
      by : (o : Option Session) → O u ≡ o → H u ≡ None
      by None at = ap (λ (w : Option Session). if_row row (if_there w (f u))) at
      by (Some s) at = ap (λ (w : Option Session). if_row row (if_there w (f u))) at ∙ is

  open-there-count : (u : ℕ) → IsSome (G u) → some_count (H u) ≡ some_count (O u)
  open-there-count u held = by (O u) refl
    where
      one : (o : Option (List ℕ)) → IsSome o → some_count o ≡ 1
      one None some = absurd (cc some)
      one (Some x) some = refl

      by : (o : Option Session) → O u ≡ o → some_count (H u) ≡ some_count (O u)
      by None at = ap (λ (w : Option Session). some_count (if_row row (if_there w (f u)))) at
          ∙ sym (ap (λ (w : Option Session). some_count w) at)
      by (Some s) at = ap (λ (w : Option Session). some_count (if_row row (if_there w (f u)))) at
          ∙ one (G u) held ∙ sym (ap (λ (w : Option Session). some_count w) at)

  bounded : (u : ℕ) → IsSome (G u) → u < tickets_end
  bounded u held = grouped.within u row (from-group f u row held)

  held-first : (least : ℕ) (o : Option ℕ) → IsFirstFrom G least o → IsHeldAt G o
  held-first least None first = tt
  held-first least (Some v) first = (first.held, bounded v first.held)

  pub walk-begins : Walks 0 0 (oldest_of p row)
  walk-begins = by (p.ends row) refl (grouped.ends row)
    where
      starts : (o : Option ℕ) → IsFirstFrom G 0 o → Walks 0 0 o
      starts o first =
          let held = held-first 0 o first in
          let whole : tickets_end - 0 ≡ tickets_end = omega arith in
          let more = count-first G H none-there 0 o (omega arith) first held in
          let all = count-first G G (λ u is. is) 0 o (omega arith) first held in
          record {
            held = held;
            rest = omega (arith, more, ap (λ (n : ℕ). length (listed H 0 n)) whole);
            left = omega (arith, all, ap (λ (n : ℕ). length (listed G 0 n)) whole);
          }

      by : (o : Option Ends) → p.ends row ≡ o → AreEndsOf f row o → Walks 0 0 (oldest_of p row)
      by None is none = rw is (starts None (λ u le. none u))
      by (Some e) is ends = rw is (starts (Some e.oldest) ends.oldest)

  -- one further
  pub walk-goes : (i count : ℕ) (at : Option ℕ) → Walks i count at → i < length (all_listed (in_group f row))
      → Walks (i + 1) (count + open_count O at) (option_and_then (newer_of p) at)
  walk-goes i count None w lt = absurd (let k = w.left in omega (arith, k, lt))
  walk-goes i count (Some v) w lt = by (p.beside v) refl (grouped.beside v row (from-group f v row w.held.0))
    where
      goes : (o : Option ℕ) → IsFirstFrom G (v + 1) o → Walks (i + 1) (count + some_count (O v)) o
      goes o first =
          let held = held-first (v + 1) o first in
          let below = w.held.1 in
          let rest = count-step H v below in
          let left = count-step G v below in
          let more = count-first G H none-there (v + 1) o (omega (arith, below)) first held in
          let all = count-first G G (λ u is. is) (v + 1) o (omega (arith, below)) first held in
          let own = open-there-count v w.held.0 in
          let one = some-one (G v) w.held.0 in
          record {
            held = held;
            rest = omega (arith, w.rest, rest, more, own);
            left = omega (arith, w.left, left, all, one);
          }
        where
          some-one : (o : Option (List ℕ)) → IsSome o → some_count o ≡ 1
          some-one None some = absurd (cc some)
          some-one (Some x) some = refl

      by : (o : Option Beside) → p.beside v ≡ o → IsBesideOf f row v o
          → Walks (i + 1) (count + some_count (O v)) (newer_of p v)
      by None is none = absurd none
      by (Some b) is beside = rw is (goes b.newer beside.newer)

  -- until all were counted
  pub walk-ends : (i count : ℕ) (at : Option ℕ) → Walks i count at → length (all_listed (in_group f row)) ≤ i
      → count ≡ length (all_listed (in_group (where_open O f) row))
  walk-ends i count None w le = omega (arith, w.rest)
  walk-ends i count (Some v) w le = absurd (
      let step = count-step G v w.held.1 in
      let one = some-one (G v) w.held.0 in
      omega (arith, w.left, step, one, le))
    where
      some-one : (o : Option (List ℕ)) → IsSome o → some_count o ≡ 1
      some-one None some = absurd (cc some)
      some-one (Some x) some = refl

  -- so many are below the end of tickets
  pub walk-bound : (i count next : ℕ) (at : Option ℕ) → Walks i count at → ((u : ℕ) → next ≤ u → O u ≡ None)
      → count + open_count O at ≤ next
  walk-bound i count next at w given =
      let few = listed-bound H 0 tickets_end next closed in
      by at w (omega (arith, few))
    where
      closed : (u : ℕ) → next ≤ u → H u ≡ None
      closed u le = ap (λ (o : Option Session). if_row row (if_there o (f u))) (given u le)

      by : (o : Option ℕ) → Walks i count o → length (all_listed H) ≤ next → count + open_count O o ≤ next
      by None w few = omega (arith, w.rest, few)
      by (Some v) w few =
          let step = count-step H v w.held.1 in
          let own = open-there-count v w.held.0 in
          omega (arith, w.rest, step, own, few)

-- whether a ticket that is given is that of an open session that agrees
module _ (q : Asked) (O : ℕ → Option Session) (o : Option ℕ) (t : ℕ) where
  pub agreeing-one : (s : Session) → o ≡ Some t → O t ≡ Some s → agrees q s ≡ true
      → 1 ≡ open_count (agreeing_of q O) o
  agreeing-one s is at agree = rw (is, at, agree) refl

  pub agreeing-other : (s : Session) → o ≡ Some t → O t ≡ Some s → agrees q s ≡ false
      → 0 ≡ open_count (agreeing_of q O) o
  agreeing-other s is at disagree = rw (is, at, disagree) refl

  pub agreeing-closed : o ≡ Some t → O t ≡ None → 0 ≡ open_count (agreeing_of q O) o
  agreeing-closed is at = rw (is, at) refl
