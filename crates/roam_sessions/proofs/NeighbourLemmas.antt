-- The neighbours of a ticket, where one comes in or goes.
use Rattle.std.proofs.Common.{◌≡◌, ◌≢◌, ℕ, ◌+◌, ◌<◌, ◌≤◌, Option, Some, None, refl, sym, ap, ◌∙◌, subst, inl, inr, arith}
use Rattle.std.specs.Prelude.{IsSome}
use Rattle.std.proofs.lemmas.Bool.{cases_eq, cases_lt}
use Rattle.roam_sessions.specs.Private.Tickets.{IsFirst, IsFirstFrom, IsLast, IsLastBelow}
use Rattle.roam_wire.specs.Numbered.{PutsAt}

module _ {X : Type 0} where
  -- nothing is there, and something
  pub held-none : (o : Option X) → IsSome o → o ≡ None → ⊥
  held-none None held none = absurd (cc held)
  held-none (Some x) held none = absurd (cc none)

  pub held-some : (o : Option X) (x : X) → o ≡ Some x → IsSome o
  held-some o x is = rw is refl

module _ {X : Type 0} (f : ℕ → Option X) (t : ℕ) (held : IsSome (f t)) where
  -- what comes after the last one below t is t
  pub next-is : (u : ℕ) (o : Option ℕ) → IsLast f t u → IsFirstFrom f (u + 1) o → o ≡ Some t
  next-is u None last first = absurd (held-none (f t) held
      (first t (let k = last.below in omega arith)))
  next-is u (Some v) last first = elim (cases_lt v t) [
    | inl lt ↦ absurd (held-none (f v) first.held
        (last.none_behind v (let k = first.from in omega arith) lt))
    | inr ge ↦ elim (cases_eq v t) [
      | inl is ↦ ap Some is
      | inr ne ↦ absurd (held-none (f t) held (first.none_before t (let k = last.below in
          omega arith) (omega arith)))
    ]
  ]

  -- and t comes after no other one
  pub next-only : (u : ℕ) (p : Option ℕ) → IsSome (f u) → p ≢ Some u → IsLastBelow f t p
      → IsFirst f (u + 1) t → ⊥
  next-only u None there apart last first = held-none (f u) there
      (last u (let k = first.from in omega arith))
  next-only u (Some v) there apart last first = elim (cases_lt v u) [
    | inl lt ↦ held-none (f u) there (last.none_behind u lt (let k = first.from in omega arith))
    | inr ge ↦ elim (cases_eq v u) [
      | inl is ↦ apart (ap Some is)
      | inr ne ↦ held-none (f v) last.held (first.none_before v (omega arith) last.below)
    ]
  ]

  -- where none is below t, it is the first of all, and where one is, it isn't
  pub oldest-is : (o : Option ℕ) → ((u : ℕ) → u < t → f u ≡ None) → IsFirstFrom f 0 o → o ≡ Some t
  oldest-is None below first = absurd (held-none (f t) held (first t (omega arith)))
  oldest-is (Some v) below first = elim (cases_lt v t) [
    | inl lt ↦ absurd (held-none (f v) first.held (below v lt))
    | inr ge ↦ elim (cases_eq v t) [
      | inl is ↦ ap Some is
      | inr ne ↦ absurd (held-none (f t) held (first.none_before t (omega arith) (omega arith)))
    ]
  ]

  pub oldest-isnt : (v : ℕ) → IsLast f t v → IsFirst f 0 t → ⊥
  oldest-isnt v last first = held-none (f v) last.held
      (first.none_before v (omega arith) last.below)

  -- what comes before the first one above t is t
  pub former-is : (u : ℕ) (o : Option ℕ) → IsFirst f (t + 1) u → IsLastBelow f u o → o ≡ Some t
  former-is u None first last = absurd (held-none (f t) held
      (last t (let k = first.from in omega arith)))
  former-is u (Some v) first last = elim (cases_lt t v) [
    | inl lt ↦ absurd (held-none (f v) last.held (first.none_before v (omega arith) last.below))
    | inr ge ↦ elim (cases_eq v t) [
      | inl is ↦ ap Some is
      | inr ne ↦ absurd (held-none (f t) held (last.none_behind t (omega arith) (let k =
          first.from in omega arith)))
    ]
  ]

  -- and t comes before no other one
  pub former-only : (u : ℕ) (n : Option ℕ) → IsSome (f u) → n ≢ Some u → IsFirstFrom f (t + 1) n
      → IsLast f u t → ⊥
  former-only u None there apart first last = held-none (f u) there
      (first u (let k = last.below in omega arith))
  former-only u (Some v) there apart first last = elim (cases_lt u v) [
    | inl lt ↦ held-none (f u) there (first.none_before u (let k = last.below in omega arith) lt)
    | inr ge ↦ elim (cases_eq v u) [
      | inl is ↦ apart (ap Some is)
      | inr ne ↦ held-none (f v) first.held (last.none_behind v (let k = first.from in
          omega arith) (omega arith))
    ]
  ]

  -- where none is above t, it is the last of all, and where one is, it isn't
  pub newest-is : (end : ℕ) (o : Option ℕ) → t < end → ((u : ℕ) → t + 1 ≤ u → f u ≡ None)
      → IsLastBelow f end o → o ≡ Some t
  newest-is end None within above last = absurd (held-none (f t) held (last t within))
  newest-is end (Some v) within above last = elim (cases_lt t v) [
    | inl lt ↦ absurd (held-none (f v) last.held (above v (omega arith)))
    | inr ge ↦ elim (cases_eq v t) [
      | inl is ↦ ap Some is
      | inr ne ↦ absurd (held-none (f t) held (last.none_behind t (omega arith) within))
    ]
  ]

  pub newest-isnt : (end v : ℕ) → IsFirst f (t + 1) v → v < end → IsLast f end t → ⊥
  newest-isnt end v first within last = held-none (f v) first.held
      (last.none_behind v (let k = first.from in omega arith) within)

-- what is at t goes
module _ {X : Type 0} (f g : ℕ → Option X) (t : ℕ) (goes : PutsAt f g t None) where
  pub none-stays : (u : ℕ) → f u ≡ None → g u ≡ None
  none-stays u none = elim (cases_eq u t) [
    | inl is ↦ ap g is ∙ goes.changed
    | inr ne ↦ goes.others u ne ∙ none
  ]

  pub held-stays : (u : ℕ) → u ≢ t → IsSome (f u) → IsSome (g u)
  held-stays u ne held = subst (λ (o : Option X). IsSome o) (sym (goes.others u ne)) held

  pub first-kept : (least : ℕ) (o : Option ℕ) → o ≢ Some t → IsFirstFrom f least o
      → IsFirstFrom g least o
  first-kept least None apart first = λ u le. none-stays u (first u le)
  first-kept least (Some v) apart first = record {
    from = first.from;
    held = held-stays v (λ e. apart (ap Some e)) first.held;
    none_before = λ u le lt. none-stays u (first.none_before u le lt);
  }

  pub last-kept : (end : ℕ) (o : Option ℕ) → o ≢ Some t → IsLastBelow f end o → IsLastBelow g end o
  last-kept end None apart last = λ u lt. none-stays u (last u lt)
  last-kept end (Some v) apart last = record {
    below = last.below;
    held = held-stays v (λ e. apart (ap Some e)) last.held;
    none_behind = λ u le lt. none-stays u (last.none_behind u le lt);
  }

  -- where t was the first one, the next one is, and where it was the last one, the former one is
  pub first-through : (least : ℕ) (n : Option ℕ) → IsFirst f least t → IsFirstFrom f (t + 1) n
      → IsFirstFrom g least n
  first-through least None first next = λ u le. before u le
    where
      before : (u : ℕ) → least ≤ u → g u ≡ None
      before u le = elim (cases_eq u t) [
        | inl is ↦ ap g is ∙ goes.changed
        | inr ne ↦ elim (cases_lt u t) [
          | inl lt ↦ none-stays u (first.none_before u le lt)
          | inr ge ↦ none-stays u (next u (omega arith))
        ]
      ]
  first-through least (Some v) first next = record {
    from = (let a = first.from in let b = next.from in omega arith);
    held = held-stays v (λ e. absurd (let b = next.from in omega arith)) next.held;
    none_before = before;
  }
    where
      before : (u : ℕ) → least ≤ u → u < v → g u ≡ None
      before u le lt = elim (cases_eq u t) [
        | inl is ↦ ap g is ∙ goes.changed
        | inr ne ↦ elim (cases_lt u t) [
          | inl less ↦ none-stays u (first.none_before u le less)
          | inr ge ↦ none-stays u (next.none_before u (omega arith) lt)
        ]
      ]

  pub last-through : (end : ℕ) (p : Option ℕ) → IsLast f end t → IsLastBelow f t p
      → IsLastBelow g end p
  last-through end None last former = λ u lt. behind u lt
    where
      behind : (u : ℕ) → u < end → g u ≡ None
      behind u lt = elim (cases_eq u t) [
        | inl is ↦ ap g is ∙ goes.changed
        | inr ne ↦ elim (cases_lt u t) [
          | inl less ↦ none-stays u (former u less)
          | inr ge ↦ none-stays u (last.none_behind u (omega arith) lt)
        ]
      ]
  last-through end (Some v) last former = record {
    below = (let a = last.below in let b = former.below in omega arith);
    held = held-stays v (λ e. absurd (let b = former.below in omega arith)) former.held;
    none_behind = behind;
  }
    where
      behind : (u : ℕ) → v < u → u < end → g u ≡ None
      behind u above lt = elim (cases_eq u t) [
        | inl is ↦ ap g is ∙ goes.changed
        | inr ne ↦ elim (cases_lt u t) [
          | inl less ↦ none-stays u (former.none_behind u above less)
          | inr ge ↦ none-stays u (last.none_behind u (omega arith) lt)
        ]
      ]

-- x comes in at n, behind all others
module _ {X : Type 0} (f g : ℕ → Option X) (n : ℕ) (x : X) (comes : PutsAt f g n (Some x))
    (free : (u : ℕ) → n ≤ u → f u ≡ None) where
  pub held-below : (u : ℕ) → IsSome (f u) → u < n
  held-below u held = elim (cases_lt u n) [
    | inl lt ↦ lt
    | inr ge ↦ absurd (held-none (f u) held (free u ge))
  ]

  before-new : (u : ℕ) → u < n → g u ≡ f u
  before-new u lt = comes.others u (λ e. absurd (omega arith))

  held-still : (u : ℕ) → IsSome (f u) → IsSome (g u)
  held-still u held = subst (λ (o : Option X). IsSome o) (sym (before-new u (held-below u held)))
      held

  pub first-new : (least : ℕ) → least ≤ n → ((u : ℕ) → least ≤ u → u < n → f u ≡ None)
      → IsFirst g least n
  first-new least le none = record {
    from = le;
    held = held-some (g n) x comes.changed;
    none_before = λ u ge lt. before-new u lt ∙ none u ge lt;
  }

  pub first-stays : (least v : ℕ) → IsFirst f least v → IsFirst g least v
  first-stays least v first = record {
    from = first.from;
    held = held-still v first.held;
    none_before = λ u ge lt. (let k = held-below v first.held in before-new u (omega arith))
        ∙ first.none_before u ge lt;
  }

  pub last-stays : (end : ℕ) (o : Option ℕ) → end ≤ n → IsLastBelow f end o → IsLastBelow g end o
  last-stays end None le last = λ u lt. before-new u (omega arith) ∙ last u lt
  last-stays end (Some v) le last = record {
    below = last.below;
    held = held-still v last.held;
    none_behind = λ u above lt. before-new u (omega arith) ∙ last.none_behind u above lt;
  }

  pub none-above : (u : ℕ) → n + 1 ≤ u → g u ≡ None
  none-above u le = comes.others u (λ e. absurd (omega arith)) ∙ free u (omega arith)

  -- the newest one comes before n, and before no other one
  pub none-between : (u : ℕ) → IsLast f n u → (v : ℕ) → u + 1 ≤ v → v < n → f v ≡ None
  none-between u last v le lt = last.none_behind v (omega arith) lt

  pub has-newer : (u : ℕ) (w o : Option ℕ) → IsSome (f u) → w ≢ Some u → IsLastBelow f n w
      → IsFirstFrom f (u + 1) o → IsFirstFrom g (u + 1) o
  has-newer u w (Some v) held apart last first = first-stays (u + 1) v first
  has-newer u None None held apart last first =
      absurd (held-none (f u) held (last u (held-below u held)))
  has-newer u (Some w) None held apart last first = absurd (elim (cases_lt w u) [
    | inl lt ↦ held-none (f u) held (last.none_behind u lt (held-below u held))
    | inr ge ↦ elim (cases_eq w u) [
      | inl is ↦ apart (ap Some is)
      | inr ne ↦ held-none (f w) last.held (first w (omega arith))
    ]
  ])
