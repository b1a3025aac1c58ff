-- Who is in a group.
use Rattle.std.proofs.Common.{◌≡◌, ℕ, zero, suc, ◌+◌, ◌-◌, ◌≤◌, true, false, List, [], length, Option, Some, None, refl, sym, ap, ◌∙◌, subst, inl, inr, arith}
use Rattle.std.specs.Prelude.{IsSome}
use Rattle.std.specs.List.{cons_option}
use Rattle.std.specs.Str.{bytes_eq}
use Rattle.std.proofs.lemmas.Bool.{cases_Bool, cases_eq, cases_lt}
use Rattle.roam_sessions.specs.Private.Groups.{AreEnds, AreEndsOf, IsBeside, IsBesideOf, IsGrouped, PlainGroups, if_row, in_group}
use Rattle.roam_sessions.specs.Private.Tickets.{IsFirst, IsFirstFrom, IsLast, IsLastBelow, all_listed}
use Rattle.roam_sessions.specs.declared.ends.Ends.{Ends}
use Rattle.roam_sessions.specs.declared.neighbours.Beside.{Beside}
use Rattle.roam_wire.specs.Numbered.{PutsAt, listed, tickets_end}
use Rattle.roam_sessions.proofs.ListedLemmas.{listed-same}
use Rattle.roam_sessions.proofs.SameLemmas.{octets-are, octets-same}

module _ {X : Type 0} (f g : ℕ → Option X) (same : (u : ℕ) → g u ≡ f u) where
  held-same : (v : ℕ) → IsSome (f v) → IsSome (g v)
  held-same v held = subst (λ (o : Option X). IsSome o) (sym (same v)) held

  pub first-same : (least v : ℕ) → IsFirst f least v → IsFirst g least v
  first-same least v first = record {
    from = first.from;
    held = held-same v first.held;
    none_before = λ u le lt. same u ∙ first.none_before u le lt;
  }

  pub last-same : (end v : ℕ) → IsLast f end v → IsLast g end v
  last-same end v last = record {
    below = last.below;
    held = held-same v last.held;
    none_behind = λ u lt less. same u ∙ last.none_behind u lt less;
  }

  pub first-from-same : (least : ℕ) (o : Option ℕ) → IsFirstFrom f least o → IsFirstFrom g least o
  first-from-same least None first = λ u le. same u ∙ first u le
  first-from-same least (Some v) first = first-same least v first

  pub last-below-same : (end : ℕ) (o : Option ℕ) → IsLastBelow f end o → IsLastBelow g end o
  last-below-same end None last = λ u lt. same u ∙ last u lt
  last-below-same end (Some v) last = last-same end v last

  pub all-same : all_listed g ≡ all_listed f
  all-same = listed-same f g 0 tickets_end (λ u le. same u)

-- there are no more of them than numbers below which they are
pub listed-bound : {X : Type 0} (f : ℕ → Option X) (t k n : ℕ) → ((u : ℕ) → n ≤ u → f u ≡ None)
    → length (listed f t k) ≤ n - t
unfolding listed
listed-bound f t zero n none = omega arith
listed-bound {X} f t (suc k) n none = elim (cases_lt t n) [
  | inl less ↦ (
      let rest = listed-bound f (t + 1) k n none in
      let one = at-most (f t) (listed f (t + 1) k) in
      omega (arith, rest, one, less))
  | inr more ↦ (
      let rest = listed-bound f (t + 1) k n none in
      rw (none t more) (omega (arith, rest)))
]
  where
    at-most : (o : Option X) (xs : List X) → length (cons_option o xs) ≤ length xs + 1
    at-most None xs = omega arith
    at-most (Some x) xs = omega arith

module _ (f : ℕ → Option (List ℕ)) (t : ℕ) where
  pub in-own : (row : List ℕ) → f t ≡ Some row → in_group f row t ≡ Some row
  in-own row is = rw (is, octets-same row row refl) refl

  pub in-other : (row other : List ℕ) → f t ≡ Some row → bytes_eq other row ≡ false → in_group f other t ≡ None
  in-other row other is apart = rw (is, apart) refl

  pub in-none : (row : List ℕ) → f t ≡ None → in_group f row t ≡ None
  in-none row none = rw none refl

  pub from-group : (row : List ℕ) → IsSome (in_group f row t) → f t ≡ Some row
  from-group row held = by (f t) refl held
    where
      by : (o : Option (List ℕ)) → f t ≡ o → IsSome (if_row row o) → f t ≡ Some row
      by None is there = absurd (cc there)
      by (Some other) is there = elim (cases_Bool (bytes_eq row other)) [
        | inl same ↦ is ∙ ap (λ (l : List ℕ). Some l) (sym (octets-are row other same))
        | inr apart ↦ absurd (none (if_row row (Some other)) (rw apart refl) there)
      ]
        where
          none : (o : Option (List ℕ)) → o ≡ None → IsSome o → ⊥
          none None e k = absurd (cc k)
          none (Some l) e k = absurd (cc e)

-- two rows of one number are one
pub one-row : (f : ℕ → Option (List ℕ)) (t : ℕ) (row other : List ℕ) → f t ≡ Some row → f t ≡ Some other
    → bytes_eq row other ≡ false → ⊥
one-row f t row other a b apart =
    let same : Some row ≡ Some other = sym a ∙ b in
    let rows : row ≡ other = cc same in
    let equal : bytes_eq row other ≡ true = octets-same row other rows in
    absurd (cc (equal, apart))

-- in the same groups
module _ (f g : ℕ → Option (List ℕ)) (row : List ℕ) (same : (u : ℕ) → in_group g row u ≡ in_group f row u) where
  pub ends-stay : (o : Option Ends) → AreEndsOf f row o → AreEndsOf g row o
  ends-stay None none = λ t. same t ∙ none t
  ends-stay (Some e) ends = record {
    oldest = first-same (in_group f row) (in_group g row) same 0 e.oldest ends.oldest;
    newest = last-same (in_group f row) (in_group g row) same tickets_end e.newest ends.newest;
    count = ap (λ (l : List (List ℕ)). length l) (all-same (in_group f row) (in_group g row) same) ∙ ends.count;
  }

  pub beside-stays : (t : ℕ) (o : Option Beside) → IsBesideOf f row t o → IsBesideOf g row t o
  beside-stays t None none = none
  beside-stays t (Some b) beside = record {
    older = last-below-same (in_group f row) (in_group g row) same t b.older beside.older;
    newer = first-from-same (in_group f row) (in_group g row) same (t + 1) b.newer beside.newer;
  }

-- nobody comes and nobody goes
pub still-grouped : (f g : ℕ → Option (List ℕ)) (p : PlainGroups) → ((u : ℕ) → g u ≡ f u) → IsGrouped f p
    → IsGrouped g p
still-grouped f g p same grouped = record {
  ends = λ row. ends-stay f g row (λ u. ap (if_row row) (same u)) (p.ends row) (grouped.ends row);
  beside = λ t row is. beside-stays f g row (λ u. ap (if_row row) (same u)) t (p.beside t)
      (grouped.beside t row (sym (same t) ∙ is));
  within = λ t row is. grouped.within t row (sym (same t) ∙ is);
}

-- where a number is put without a row
pub none-put : (f g : ℕ → Option (List ℕ)) (t : ℕ) → PutsAt f g t None → f t ≡ None → (u : ℕ) → g u ≡ f u
none-put f g t puts none u = elim (cases_eq u t) [
  | inl is ↦ ap g is ∙ puts.changed ∙ sym none ∙ ap f (sym is)
  | inr ne ↦ puts.others u ne
]

-- the neighbours of a number in its group are there
pub beside-there : (f : ℕ → Option (List ℕ)) (row : List ℕ) (t : ℕ) (o : Option Beside) (b : Beside) → o ≡ Some b
    → IsBesideOf f row t o → IsBeside f row t b
beside-there f row t o b is beside = subst (λ (k : Option Beside). IsBesideOf f row t k) is beside

pub ends-there : (f : ℕ → Option (List ℕ)) (row : List ℕ) (o : Option Ends) (e : Ends) → o ≡ Some e
    → AreEndsOf f row o → AreEnds f row e
ends-there f row o e is ends = subst (λ (k : Option Ends). AreEndsOf f row k) is ends
