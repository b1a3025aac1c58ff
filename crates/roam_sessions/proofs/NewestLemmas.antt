-- The sessions of tickets before one, and how many those are.
use Rattle.std.proofs.Common.{◌≡◌, ℕ, zero, suc, ◌+◌, ◌-◌, ◌<◌, ◌≤◌, Bool, true, false, List, [], ◌∷◌, ◌++◌, length, drop, get_or, length-append, Option, Some, None, refl, sym, ap, ◌∙◌, subst, inl, inr, arith, cond}
use Rattle.std.specs.Prelude.{IfNone, IfSome, IsSome, nat_eq, nat_lt, option_map}
use Rattle.std.specs.List.{AllByRecursion, IsDistinct, cons_option, count_by}
use Rattle.std.specs.Map.{keys_of, lookup}
use Rattle.std.proofs.lemmas.Bool.{cases_Bool, cases_lt, le-ltb, lt-ltb}
use Rattle.std.proofs.lemmas.Bool.Decides.{nat_tests}
use Rattle.std.proofs.lemmas.List.{append-nil, drop_at}
use Rattle.std.proofs.lemmas.List.Sums.{sum_by-cons}
use Rattle.roam_wire.specs.Numbered.{listed}
use Rattle.roam_sessions.proofs.ListedLemmas.{length-gone, listed-same}

module _ {X : Type 0} where
  -- what numbers have up to one, and from it on
  pub listed-parts : (f : ℕ → Option X) (t m n k : ℕ) → k ≡ m + n
      → listed f t k ≡ listed f t m ++ listed f (t + m) n
  unfolding listed
  listed-parts f t zero n k is =
      let all : k ≡ n = omega (arith, is) in
      let first : t ≡ t + 0 = omega arith in
      ap (λ (j : ℕ). listed f t j) all ∙ ap (λ (j : ℕ). listed f j n) first
  listed-parts f t (suc m) n zero is = absurd (omega (arith, is))
  listed-parts f t (suc m) n (suc k) is =
      let behind : t + 1 + m ≡ t + suc m = omega arith in
      let next : listed f (t + 1) k ≡ listed f (t + 1) m ++ listed f (t + suc m) n =
      listed-parts f (t + 1) m n k (omega (arith, is))
      ∙ ap (λ (j : ℕ). listed f (t + 1) m ++ listed f j n) behind in
      ap (cons_option (f t)) next ∙ sym (append-cons (f t) (listed f (t + 1) m) (listed f (t + suc m) n))
    where
      append-cons : (o : Option X) (xs ys : List X) → cons_option o xs ++ ys ≡ cons_option o (xs ++ ys)
      append-cons None xs ys = refl
      append-cons (Some y) xs ys = refl

  -- nothing, where none of them has anything
  pub listed-empty : (f : ℕ → Option X) (t n : ℕ) → ((u : ℕ) → t ≤ u → u < t + n → f u ≡ None) → listed f t n ≡ []
  unfolding listed
  listed-empty f t zero none = refl
  listed-empty f t (suc n) none = rw (none t (omega arith) (omega arith))
      (listed-empty f (t + 1) n (λ u le lt. none u (omega (arith, le)) (omega (arith, lt))))

  -- the same, where numbers below an end have the same
  pub listed-below : (f g : ℕ → Option X) (t n : ℕ) → ((u : ℕ) → u < t + n → g u ≡ f u) → listed g t n ≡ listed f t n
  unfolding listed
  listed-below f g t zero same = refl
  listed-below f g t (suc n) same = rw (
    same t (omega arith),
    listed-below f g (t + 1) n (λ u lt. same u (omega (arith, lt))),
  ) refl

  -- one number more has one thing more at most
  one-more : (f : ℕ → Option X) (t : ℕ) → length (listed f t 1) ≤ 1
  unfolding listed
  one-more f t = by (f t)
    where
      by : (o : Option X) → length (cons_option o []) ≤ 1
      by None = omega arith
      by (Some x) = omega arith

  pub length-more : (f : ℕ → Option X) (m : ℕ) → length (listed f 0 (m + 1)) ≤ length (listed f 0 m) + 1
  length-more f m =
      let parts = listed-parts f 0 m 1 (m + 1) refl in
      let one = one-more f (0 + m) in
      rw parts (omega (arith, length-append (listed f 0 m) (listed f (0 + m) 1), one))

  pub none-first : (f : ℕ → Option X) → length (listed f 0 0) ≡ 0
  unfolding listed
  none-first f = refl

  -- those below an end are as many as all, where no later number has anything
  pub length-all : (f : ℕ → Option X) (next end : ℕ) → ((u : ℕ) → next ≤ u → f u ≡ None) → next ≤ end
      → listed f 0 end ≡ listed f 0 next
  length-all f next end none le =
      let whole : end ≡ next + (end - next) = omega (arith, le) in
      listed-parts f 0 next (end - next) end whole
      ∙ ap (λ (l : List X). listed f 0 next ++ l) (listed-empty f (0 + next) (end - next)
      (λ u ge lt. none u (omega (arith, ge)))) ∙ append-nil (listed f 0 next)

  -- where those below a number went, the others are left
  pub newest-left : (f g : ℕ → Option X) (end last : ℕ) → end ≤ last → ((u : ℕ) → u < end → g u ≡ None)
      → ((u : ℕ) → end ≤ u → g u ≡ f u) → listed g 0 last ≡ drop (length (listed f 0 end)) (listed f 0 last)
  newest-left f g end last le gone same =
      let whole : last ≡ end + (last - end) = omega (arith, le) in
      let behind : listed g (0 + end) (last - end) ≡ listed f (0 + end) (last - end) =
      listed-same f g (0 + end) (last - end) (λ u ge. same u (omega (arith, ge))) in
      let front : listed g 0 end ≡ [] = listed-empty g 0 end (λ u ge lt. gone u (omega (arith, lt))) in
      let new : listed g 0 last ≡ listed f (0 + end) (last - end) =
      listed-parts g 0 end (last - end) last whole
      ∙ ap (λ (l : List X). l ++ listed g (0 + end) (last - end)) front ∙ behind in
      let old : listed f 0 last ≡ listed f 0 end ++ listed f (0 + end) (last - end) =
      listed-parts f 0 end (last - end) last whole in
      new
      ∙ sym (ap (drop (length (listed f 0 end))) old
      ∙ drop_at (listed f 0 end) (listed f (0 + end) (last - end)) (length (listed f 0 end)) refl)

-- ---- the keys of a map

module _ {X Y : Type 0} (seen : X → Y) where
  abbrev at : List (ℕ × X) → ℕ → Option Y
  at es t = option_map seen (lookup (nat_eq t) es)

  -- a key that isn't there has nothing
  absent : (k : ℕ) (es : List (ℕ × X)) → AllByRecursion (λ y. nat_eq k y ≡ false) (keys_of es) → at es k ≡ None
  absent k [] none = refl
  absent k (e ∷ es) none = rw none.0 (absent k es none.1)

  other : (k t : ℕ) (x : X) (es : List (ℕ × X)) → (t ≡ k → ⊥) → at ((k, x) ∷ es) t ≡ at es t
  other k t x es ne = (let apart : nat_eq t k ≡ false = grind (arith, nat_tests) in rw apart refl)

  here : (k : ℕ) (x : X) (es : List (ℕ × X)) → at ((k, x) ∷ es) k ≡ Some (seen x)
  here k x es = (let same : nat_eq k k ≡ true = grind (arith, nat_tests) in rw same refl)

  abbrev one_below : ℕ → ℕ → ℕ
  one_below t k = cond (nat_lt k t) 1 0

  one-less : (k t : ℕ) (ks : List ℕ) → k < t
      → count_by (λ (n : ℕ). nat_lt n t) (k ∷ ks) ≡ 1 + count_by (λ (n : ℕ). nat_lt n t) ks
  one-less k t ks lt =
      sum_by-cons (one_below t) k ks
      ∙ ap (λ (b : Bool). cond b 1 0 + count_by (λ (n : ℕ). nat_lt n t) ks) (lt-ltb k t lt)

  no-less : (k t : ℕ) (ks : List ℕ) → t ≤ k
      → count_by (λ (n : ℕ). nat_lt n t) (k ∷ ks) ≡ 0 + count_by (λ (n : ℕ). nat_lt n t) ks
  no-less k t ks ge =
      sum_by-cons (one_below t) k ks
      ∙ ap (λ (b : Bool). cond b 1 0 + count_by (λ (n : ℕ). nat_lt n t) ks) (le-ltb k t ge)

  -- as many keys are below a number as numbers below it have something
  pub keys-counted : (es : List (ℕ × X)) (t : ℕ) → IsDistinct nat_eq (keys_of es)
      → count_by (λ k. nat_lt k t) (keys_of es) ≡ length (listed (at es) 0 t)
  unfolding IsDistinct
  keys-counted [] t distinct = sym (ap (λ (l : List Y). length l) (listed-empty (at []) 0 t (λ u le lt. refl)))
  keys-counted (e ∷ es) t distinct =
      let rest = keys-counted es t distinct.1 in
      let none = absent e.0 es distinct.0 in
      elim (cases_lt e.0 t) [
        | inl lt ↦ (
            let one = length-gone (at (e ∷ es)) (at es) 0 t e.0
            (subst (λ (o : Option Y). IsSome o) (sym (here e.0 e.1 es)) refl) none
            (λ v ne. sym (other e.0 v e.1 es ne)) (omega arith) (omega (arith, lt)) in
            omega (arith, one-less e.0 t (keys_of es) lt, rest, one))
        | inr ge ↦ (
            let same : listed (at (e ∷ es)) 0 t ≡ listed (at es) 0 t =
            listed-below (at es) (at (e ∷ es)) 0 t
            (λ v lt. other e.0 v e.1 es (λ is. absurd (omega (arith, lt, is, ge)))) in
            omega (arith, no-less e.0 t (keys_of es) ge, rest, ap (λ (l : List Y). length l) same))
      ]

  -- a key has something
  pub key-held : (es : List (ℕ × X)) (k t : ℕ) → k < length (keys_of es) → get_or (keys_of es) k 0 ≡ t
      → IsSome (at es t)
  key-held [] k t lt is = absurd (omega (arith, lt))
  key-held (e ∷ es) zero t lt is = subst (λ (n : ℕ). IsSome (at (e ∷ es) n)) is
      (subst (λ (o : Option Y). IsSome o) (sym (here e.0 e.1 es)) refl)
  key-held (e ∷ es) (suc k) t lt is = elim (cases_Bool (nat_eq t e.0)) [
    | inl same ↦ rw same refl
    | inr apart ↦ rw apart (key-held es k t (omega (arith, lt)) is)
  ]

  -- where all keys are from a number on, no lesser one has anything
  pub none-below : (es : List (ℕ × X)) (end t : ℕ)
      → ((k : ℕ) → k < length (keys_of es) → end ≤ get_or (keys_of es) k 0) → t < end → at es t ≡ None
  none-below [] end t all lt = refl
  none-below (e ∷ es) end t all lt =
      let first : end ≤ e.0 = all 0 (omega arith) in
      other e.0 t e.1 es (λ is. absurd (omega (arith, first, is, lt)))
      ∙ none-below es end t (λ k less. all (suc k) (omega (arith, less))) lt

  -- what a search of the keys found, and that it found none
  pub found-held : (es : List (ℕ × X)) (ks : List ℕ) (o : Option (ℕ × ℕ)) → ks ≡ keys_of es
      → IfSome o (λ x. x.0 < length ks) → IfSome o (λ x. get_or ks x.0 0 ≡ x.1) → IfSome o (λ x. IsSome (at es x.1))
  found-held es ks None keys within there = tt
  found-held es ks (Some x) keys within there =
      key-held es x.0 x.1 (omega (arith, within, ap (λ (l : List ℕ). length l) keys))
      (sym (ap (λ (l : List ℕ). get_or l x.0 0) keys) ∙ there)

  pub found-none : (es : List (ℕ × X)) (ks : List ℕ) (end : ℕ) (o : Option (ℕ × ℕ)) → ks ≡ keys_of es
      → IfNone o ((k : ℕ) → k < length ks → end ≤ get_or ks k 0)
      → IfNone o ((t : ℕ) → t < end → at es t ≡ None)
  found-none es ks end None keys none =
      λ t lt. none-below es end t
      (subst (λ (l : List ℕ). (k : ℕ) → k < length l → end ≤ get_or l k 0) keys none) lt
  found-none es ks end (Some x) keys none = tt
