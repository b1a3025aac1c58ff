-- The group that has most.
use Rattle.std.proofs.Common.{◌≡◌, ◌⊎◌, ℕ, zero, suc, ◌+◌, ◌<◌, ◌≤◌, ◌==◌, Bool, true, false, List, [], ◌∷◌, length, Option, Some, None, refl, sym, ap, ◌∙◌, subst, inl, inr, arith}
use Rattle.std.specs.Prelude.{◌&&◌, nat_le, nat_lt, option_map, slice_get}
use Rattle.std.specs.Map.{lookup}
use Rattle.std.proofs.lemmas.Bool.{and_parts, cases_Bool, cases_eq}
use Rattle.std.proofs.lemmas.Bool.Decides.{nat_tests}
use Rattle.roam_sessions.specs.Private.Groups.{IsLargest, IsNoLarger, PlainGroups, larger}
use Rattle.roam_sessions.specs.declared.ends.Ends.{Ends}

-- a group isn't larger than the best one so far
abbrev pub IsNoLargerThan : Option Ends → Ends → Type 0
IsNoLargerThan None ends = ⊥
IsNoLargerThan (Some best) ends = IsNoLarger ends best

less-is : (a b : ℕ) → nat_lt a b ≡ true → a < b
less-is a b h = grind (arith, nat_tests)

not-less : (a b : ℕ) → nat_lt a b ≡ false → b ≤ a
not-less a b h = grind (arith, nat_tests)

as-many-is : (a b c d : ℕ) → (a == b && nat_le c d) ≡ true → (a ≡ b) × (c ≤ d)
as-many-is a b c d h =
    let parts = and_parts (a == b) (nat_le c d) h in
    let same : a ≡ b = (let k = parts.0 in grind (arith, nat_tests, k)) in
    let le : c ≤ d = (let k = parts.1 in grind (arith, nat_tests, k)) in
    (same, le)

not-as-many : (a b c d : ℕ) → (a == b && nat_le c d) ≡ false → a ≡ b → d < c
not-as-many a b c d h same =
    let first : (a == b) ≡ true = grind (arith, nat_tests, same) in
    let later : nat_le c d ≡ false = rw first at h in
    grind (arith, nat_tests, later)

itself : (e : Ends) → IsNoLarger e e
itself e = inr (refl, omega arith)

-- the better of two is no smaller than either
pub new-no-larger : (best : Option Ends) (e : Ends) → IsNoLarger e (larger best e)
new-no-larger None e = itself e
new-no-larger (Some b) e = elim (cases_Bool (nat_lt e.count b.count)) [
  | inl less ↦ rw less (inl (less-is e.count b.count less))
  | inr more ↦ rw more (elim (cases_Bool (b.count == e.count && nat_le b.oldest e.oldest)) [
    | inl same ↦ rw same (let is = as-many-is b.count e.count b.oldest e.oldest same in inr (sym is.0, is.1))
    | inr differs ↦ rw differs (itself e)
  ])
]

pub best-no-larger : (best : Option Ends) (e other : Ends) → IsNoLargerThan best other
    → IsNoLarger other (larger best e)
best-no-larger None e other h = absurd h
best-no-larger (Some b) e other h = elim (cases_Bool (nat_lt e.count b.count)) [
  | inl less ↦ rw less h
  | inr more ↦ rw more (elim (cases_Bool (b.count == e.count && nat_le b.oldest e.oldest)) [
    | inl same ↦ rw same h
    | inr differs ↦ rw differs (through (not-less e.count b.count more) differs h)
  ])
]
  where
    through : b.count ≤ e.count → (b.count == e.count && nat_le b.oldest e.oldest) ≡ false
        → IsNoLarger other b → IsNoLarger other e
    through le differs (inl less) = inl (omega (arith, le, less))
    through le differs (inr same) = elim (cases_eq b.count e.count) [
      | inl equal ↦ (
          let older = not-as-many b.count e.count b.oldest e.oldest differs equal in
          inr (same.0 ∙ equal, (let k = same.1 in omega (arith, older, k))))
      | inr ne ↦ (let k = same.0 in inl (omega (arith, le, ne, k)))
    ]

-- and it is one of them
pub larger-is : (best : Option Ends) (e : Ends) → (larger best e ≡ e) ⊎ (best ≡ Some (larger best e))
larger-is None e = inl refl
larger-is (Some b) e = elim (cases_Bool (nat_lt e.count b.count)) [
  | inl less ↦ rw less (inr refl)
  | inr more ↦ rw more (elim (cases_Bool (b.count == e.count && nat_le b.oldest e.oldest)) [
    | inl same ↦ rw same (inr refl)
    | inr differs ↦ rw differs (inl refl)
  ])
]

-- what is looked up is at a place
pub lookup-at : {K V : Type 0} (test : K → Bool) (xs : List (K × V)) (v : V) → lookup test xs ≡ Some v
    → (i : ℕ) × (k : K) × (slice_get xs i ≡ Some (k, v)) × (i < length xs)
lookup-at test [] v is = absurd (cc is)
lookup-at {K} {V} test (x ∷ xs) v is = elim (cases_Bool (test x.0)) [
  | inl here ↦ (
      let same : Some x.1 ≡ Some v = rw here at is in
      let value : x.1 ≡ v = cc same in
      (zero, x.0, ap (λ (w : V). let p : Option (K × V) = Some (x.0, w) in p) value, omega arith))
  | inr other ↦ (
      let rest : lookup test xs ≡ Some v = rw other at is in
      let found = lookup-at test xs v rest in
      (suc found.0, found.1, found.2, (let k = found.3 in omega (arith, k))))
]

-- of those that were looked at none is larger than the best one, and that is a group's
module _ {K : Type 0} (p : PlainGroups) (entries : List (K × Ends)) where
  pub record IsBest (i : ℕ) (best : Option Ends) : Type 0 where
    pub there : (b : Ends) → best ≡ Some b → (row : List ℕ) × (p.ends row ≡ Some b)
    pub seen : (j : ℕ) (x : K × Ends) → j < i → slice_get entries j ≡ Some x → IsNoLargerThan best x.1

  pub best-first : IsBest 0 None
  best-first = record {
    there = λ b is. absurd (cc is);
    seen = λ j x lt at. absurd (omega (arith, lt));
  }

  pub best-next : (i : ℕ) (best : Option Ends) (k : K) (e : Ends) (row : List ℕ) → IsBest i best
      → slice_get entries i ≡ Some (k, e) → p.ends row ≡ Some e → IsBest (i + 1) (Some (larger best e))
  best-next i best k e row is at found = record { there = there_now; seen = seen_now }
    where
      there_now : (b : Ends) → Some (larger best e) ≡ Some b → (other : List ℕ) × (p.ends other ≡ Some b)
      there_now b same = (
          let one : larger best e ≡ b = cc same in
          elim (larger-is best e) [
            | inl new ↦ (row, found ∙ ap (λ (x : Ends). Some x) (sym new ∙ one))
            | inr old ↦ is.there b (old ∙ same)
          ])

      seen_now : (j : ℕ) (x : K × Ends) → j < i + 1 → slice_get entries j ≡ Some x → IsNoLarger x.1 (larger best e)
      seen_now j x lt there = elim (cases_eq j i) [
        | inl same ↦ (
            let both : Some x ≡ Some (k, e) = sym there ∙ ap (slice_get entries) same ∙ at in
            let one : x ≡ (k, e) = cc both in
            subst (λ (y : Ends). IsNoLarger y (larger best e)) (sym (ap (λ (z : K × Ends). z.1) one))
            (new-no-larger best e))
        | inr ne ↦ best-no-larger best e x.1 (is.seen j x (omega (arith, lt, ne)) there)
      ]

  pub best-skips : (i : ℕ) (best : Option Ends) → IsBest i best → slice_get entries i ≡ None → IsBest (i + 1) best
  best-skips i best is none = record {
    there = is.there;
    seen = λ j x lt at. elim (cases_eq j i) [
      | inl same ↦ absurd (
          let both : Some x ≡ None = sym at ∙ ap (slice_get entries) same ∙ none in cc both)
      | inr ne ↦ is.seen j x (omega (arith, lt, ne)) at
    ];
  }

  module _ (finds : (row : List ℕ) (e : Ends) → p.ends row ≡ Some e
      → (j : ℕ) × (k : K) × (slice_get entries j ≡ Some (k, e)) × (j < length entries)) where
    pub best-is-largest : (n : ℕ) (best : Option Ends) → IsBest n best → length entries ≤ n
        → IsLargest p (option_map (λ (e : Ends). e.oldest) best)
    best-is-largest n None is all = λ row. by row (p.ends row) refl
      where
        by : (row : List ℕ) (o : Option Ends) → p.ends row ≡ o → o ≡ None
        by row None at = refl
        by row (Some e) at = absurd (
            let found = finds row e at in
            let lt = found.3 in
            is.seen found.0 (found.1, e) (omega (arith, lt, all)) found.2)
    best-is-largest n (Some b) is all = (
        let its = is.there b refl in
        record {
          row = its.0;
          ends = b;
          there = its.1;
          oldest = refl;
          most = λ other e at. (
              let found = finds other e at in
              let lt = found.3 in
              is.seen found.0 (found.1, e) (omega (arith, lt, all)) found.2);
        })
