-- What is laid out holds the tables of the file, and no others that are here.
use Rattle.std.proofs.Common.{◌≡◌, ◌⊎◌, ℕ, zero, suc, ◌<◌, Bool, true, false, ◌||◌, not, cond, inl, inr, List, [], ◌∷◌, Option, Some, None, Contains, get_or, length, unwrap_or, map, refl, subst, sym, ap, ◌∙◌, arith}
use Rattle.std.proofs.lemmas.Bool.{cases_Bool, or_parts, false≢true, true≢false}
use Rattle.std.proofs.lemmas.List.Elements.{Contains-append_cases, Contains-append_left, Contains-append_right}
use Rattle.std.specs.List.{find, list_any}
use Rattle.std.specs.Prelude.{filter}
use Rattle.roam_conf.specs.Duplicates.{has_pair}
use Rattle.roam_reload.specs.Numbers.{HoldsJust, laid_by}

module _ {X : Type 0} where
  in_cons : (y : X) (ys : List X) (x : X) → Contains (y ∷ ys) x → (y ≡ x) ⊎ Contains ys x
  in_cons y ys x h = by_index h.0 h.1 h.2
    where
      by_index : (k : ℕ) → k < length (y ∷ ys) → get_or (y ∷ ys) k x ≡ x → (y ≡ x) ⊎ Contains ys x
      by_index zero inside is = inl is
      by_index (suc k) inside is = inr (k, omega (arith, inside), is)

  in_tail : (y : X) (ys : List X) (x : X) → Contains ys x → Contains (y ∷ ys) x
  in_tail y ys x h = (suc h.0, omega (arith, h.1), h.2)

  at_head : (y : X) (ys : List X) (x : X) → y ≡ x → Contains (y ∷ ys) x
  at_head y ys x is = (0, omega arith, is)

  in_none : (x : X) → Contains [] x → ⊥
  in_none x h = (let never : ⊥ = omega (arith, h.1) in never)

  -- ---- what passes a test

  filtered : (test : X → Bool) (xs : List X) (x : X) → Contains (filter test xs) x → Contains xs x
  filtered test [] x h = h
  filtered test (y ∷ ys) x h = by_test (filtered test ys x) (test y) h
    where
      by_test : (Contains (filter test ys) x → Contains ys x) → (b : Bool) →
          Contains (cond b (y ∷ filter test ys) (filter test ys)) x → Contains (y ∷ ys) x
      by_test later true h' =
          elim (in_cons y (filter test ys) x h') [
            | inl is ↦ at_head y ys x is
            | inr in_rest ↦ in_tail y ys x (later in_rest)
          ]
      by_test later false h' = in_tail y ys x (later h')

  passes : (test : X → Bool) (xs : List X) (x : X) → test x ≡ true → Contains xs x → Contains (filter test xs) x
  passes test [] x good h = h
  passes test (y ∷ ys) x good h =
      elim (in_cons y ys x h) [
        | inl is ↦ (
            let first : test y ≡ true = ap test is ∙ good in
            subst (λ (b : Bool). Contains (cond b (y ∷ filter test ys) (filter test ys)) x) (sym first)
            (at_head y (filter test ys) x is))
        | inr in_rest ↦ by_test (test y) (passes test ys x good in_rest)
      ]
    where
      by_test : (b : Bool) → Contains (filter test ys) x → Contains (cond b (y ∷ filter test ys) (filter test ys)) x
      by_test true in_rest = in_tail y (filter test ys) x in_rest
      by_test false in_rest = in_rest

  -- ---- what is found

  found_in : (test : X → Bool) (xs : List X) (x : X) → find test xs ≡ Some x → Contains xs x × (test x ≡ true)
  found_in test [] x is = absurd cc
  found_in test (y ∷ ys) x is =
      elim (cases_Bool (test y)) [
        | inl yes' ↦ (
            let both : Some y ≡ Some x = ap (λ b. cond b (Some y) (find test ys)) (sym yes') ∙ is in
            let same : y ≡ x = ap (λ o. unwrap_or o y) both in
            (at_head y ys x same, ap test (sym same) ∙ yes'))
        | inr no' ↦ (
            let rest = found_in test ys x (ap (λ b. cond b (Some y) (find test ys)) (sym no') ∙ is) in
            (in_tail y ys x rest.0, rest.1))
      ]

  some_found : (test : X → Bool) (xs : List X) (x : X) → test x ≡ true → Contains xs x →
      (y : X) × (find test xs ≡ Some y)
  some_found test [] x good h = absurd (in_none x h)
  some_found test (y ∷ ys) x good h =
      elim (cases_Bool (test y)) [
        | inl yes' ↦ (y, ap (λ b. cond b (Some y) (find test ys)) yes')
        | inr no' ↦ elim (in_cons y ys x h) [
          | inl is ↦ absurd (true≢false (sym good ∙ ap test (sym is) ∙ no'))
          | inr in_rest ↦ (
              let rest = some_found test ys x good in_rest in
              (rest.0, ap (λ b. cond b (Some y) (find test ys)) no' ∙ rest.1))
        ]
      ]

  some_passes : (test : X → Bool) (xs : List X) → list_any test xs ≡ true → (x : X) × Contains xs x × (test x ≡ true)
  some_passes test [] is = absurd (false≢true is)
  some_passes test (y ∷ ys) is =
      elim (cases_Bool (test y)) [
        | inl yes' ↦ (y, at_head y ys y refl, yes')
        | inr no' ↦ (
            let rest = some_passes test ys (ap (λ b. b || list_any test ys) (sym no') ∙ is) in
            (rest.0, in_tail y ys rest.0 rest.1, rest.2))
      ]

  none_passes : (test : X → Bool) (xs : List X) (x : X) → list_any test xs ≡ false → Contains xs x → test x ≡ false
  none_passes test [] x none h = absurd (in_none x h)
  none_passes test (y ∷ ys) x none h =
      let parts = or_parts (test y) (list_any test ys) none in
      elim (in_cons y ys x h) [
        | inl is ↦ ap test (sym is) ∙ parts.0
        | inr in_rest ↦ none_passes test ys x parts.1 in_rest
      ]

mapped : {X Y : Type 0} (f : X → Y) (xs : List X) (y : Y) → Contains (map f xs) y → (x : X) × (f x ≡ y)
mapped f [] y h = absurd (in_none y h)
mapped f (x ∷ xs) y h =
    elim (in_cons (f x) (map f xs) y h) [
      | inl is ↦ (x, is)
      | inr in_rest ↦ mapped f xs y in_rest
    ]

map_in : {X Y : Type 0} (f : X → Y) (xs : List X) (x : X) → Contains xs x → Contains (map f xs) (f x)
map_in f [] x h = absurd (in_none x h)
map_in f (y ∷ ys) x h =
    elim (in_cons y ys x h) [
      | inl is ↦ at_head (f y) (map f ys) (f x) (ap f is)
      | inr in_rest ↦ in_tail (f y) (map f ys) (f x) (map_in f ys x in_rest)
    ]

module _ {X : Type 0} (same : X → X → Bool)
    (meet : (t x y : X) → same t y ≡ true → same x y ≡ true → same t x ≡ true)
    (part : (x y z : X) → same x y ≡ true → same x z ≡ true → same y z ≡ true) where
  -- two that are the same, of a list in which no two are, are one
  one_of : (xs : List X) (a b : X) → has_pair same xs ≡ false → Contains xs a → Contains xs b → same a b ≡ true →
      a ≡ b
  one_of [] a b none h k both = absurd (in_none a h)
  one_of (x ∷ xs) a b none h k both =
      let parts = or_parts (list_any (same x) xs) (has_pair same xs) none in
      elim (in_cons x xs a h) [
        | inl is_a ↦ elim (in_cons x xs b k) [
          | inl is_b ↦ sym is_a ∙ is_b
          | inr rest_b ↦ absurd (true≢false (sym both ∙ ap (λ y. same y b) (sym is_a)
              ∙ none_passes (same x) xs b parts.0 rest_b))
        ]
        | inr rest_a ↦ elim (in_cons x xs b k) [
          | inl is_b ↦ (
              let itself : same a a ≡ true = meet a a b both both in
              let back : same b a ≡ true = part a b a both itself in
              absurd (true≢false (sym back ∙ ap (λ y. same y a) (sym is_b) ∙ none_passes (same x) xs a parts.0 rest_a)))
          | inr rest_b ↦ one_of xs a b parts.1 rest_a rest_b both
        ]
      ]

  pub holds_just : (gone : X → X) (is_gone : X → Bool) → ((x : X) → is_gone (gone x) ≡ true) → (old new : List X) →
      has_pair same new ≡ false → HoldsJust is_gone new (laid_by same gone old new)
  holds_just gone is_gone gone_is old new apart = λ x here.
      let next : X → X = λ t. unwrap_or (find (same t) new) (gone t) in
      let further : X → Bool = λ y. not (list_any (λ t. same t y) old) in (
        λ laid.
            elim (Contains-append_cases (map next old) (filter further new) x laid) [
              | inl in_old ↦ (
                  let at = mapped next old x in_old in
                  by_found x here at.0 (find (same at.0) new) refl at.1)
              | inr behind ↦ filtered further new x behind
            ],
        λ there.
            elim (cases_Bool (list_any (λ t. same t x) old)) [
              | inl known ↦ (
                  let it = some_passes (λ t. same t x) old known in
                  let found = some_found (same it.0) new x it.2 there in
                  let also = found_in (same it.0) new found.0 found.1 in
                  let one : found.0 ≡ x =
                  one_of new found.0 x apart also.0 there (part it.0 found.0 x also.1 it.2) in
                  let at : next it.0 ≡ x = ap (λ o. unwrap_or o (gone it.0)) found.1 ∙ one in
                  Contains-append_left (map next old) (filter further new) x
                  (subst (Contains (map next old)) at (map_in next old it.0 it.1)))
              | inr unknown ↦ Contains-append_right (map next old) (filter further new) x
                  (passes further new x (ap not unknown) there)
            ],
      )
    where
      by_found : (x : X) → is_gone x ≡ false → (t : X) (o : Option X) → find (same t) new ≡ o →
          unwrap_or o (gone t) ≡ x → Contains new x
      by_found x here t None is at = absurd (true≢false (sym (gone_is t) ∙ ap is_gone at ∙ here))
      by_found x here t (Some y) is at = subst (Contains new) at (found_in (same t) new y is).0
