-- Tables in slots: as they are shown, and the first one of a name.
use Rattle.std.proofs.Common.{◌≡◌, ℕ, zero, suc, ◌+◌, ◌<◌, ◌≤◌, Bool, false, cond, inl, inr, List, [], ◌∷◌, ◌++◌, Option, Some, None, option_map, get_or, length, map, append_assoc, refl, subst, sym, ap, ◌∙◌, arith}
use Rattle.std.proofs.lemmas.Bool.{cases_Bool}
use Rattle.std.proofs.lemmas.List.{append-nil, get_or-map, map-append, map-set}
use Rattle.std.proofs.lemmas.Option.{same_Some}
use Rattle.std.specs.List.{find, position_from}
use Rattle.std.specs.Option.{option_to_list}
use Rattle.std.specs.Prelude.{if◌then◌else◌, slice_set}
use Rattle.roam_reload.specs.Laying.{all_in, left_in, slot_holds, without_first}

-- one table more has its slot
pub one_slot : {A X : Type 0} (shown : A → X) (slots new : List (Option A)) (items rest : List A) (x : A)
    (all : List (Option X)) → items ≡ x ∷ rest → new ≡ slots ++ Some x ∷ [] →
    map (option_map shown) slots ++ all_in (map shown items) ≡ all →
    map (option_map shown) new ++ all_in (map shown rest) ≡ all
one_slot shown slots new items rest x all is more before =
    ap (λ ss. map (option_map shown) ss ++ all_in (map shown rest)) more
    ∙ ap (λ ss. ss ++ all_in (map shown rest)) (map-append (option_map shown) slots (Some x ∷ []))
    ∙ append_assoc (map (option_map shown) slots) (Some (shown x) ∷ []) (all_in (map shown rest))
    ∙ ap (λ xs. map (option_map shown) slots ++ all_in (map shown xs)) (sym is) ∙ before

-- all have
pub all_slots : {A X : Type 0} (shown : A → X) (slots : List (Option A)) (items : List A) (all : List (Option X)) →
    items ≡ [] → map (option_map shown) slots ++ all_in (map shown items) ≡ all → map (option_map shown) slots ≡ all
all_slots shown slots items all none before =
    sym (append-nil (map (option_map shown) slots))
    ∙ ap (λ xs. map (option_map shown) slots ++ all_in (map shown xs)) (sym none) ∙ before

-- the table of one slot more was put behind
pub one_put : {A X : Type 0} (shown : A → X) (laid new : List X) (items rest : List (Option A)) (slot : Option A)
    (all : List X) → items ≡ slot ∷ rest → new ≡ laid ++ option_to_list (option_map shown slot) →
    laid ++ left_in (map (option_map shown) items) ≡ all → new ++ left_in (map (option_map shown) rest) ≡ all
one_put {A} {X} shown laid new items rest slot all is more before =
    ap (λ xs. xs ++ left_in (map (option_map shown) rest)) more
    ∙ by_slot slot
    ∙ ap (λ ss. laid ++ left_in (map (option_map shown) ss)) (sym is) ∙ before
  where
    by_slot : (o : Option A) → (laid ++ option_to_list (option_map shown o)) ++ left_in (map (option_map shown) rest)
        ≡ laid ++ left_in (map (option_map shown) (o ∷ rest))
    by_slot None = ap (λ xs. xs ++ left_in (map (option_map shown) rest)) (append-nil laid)
    by_slot (Some x) = append_assoc laid (shown x ∷ []) (left_in (map (option_map shown) rest))

pub all_put : {A X : Type 0} (shown : A → X) (laid : List X) (items : List (Option A)) (all : List X) →
    items ≡ [] → laid ++ left_in (map (option_map shown) items) ≡ all → laid ≡ all
all_put shown laid items all none before =
    sym (append-nil laid) ∙ ap (λ ss. laid ++ left_in (map (option_map shown) ss)) (sym none) ∙ before

-- ---- the first slot that has a table of a name

at_least : {X : Type 0} (test : X → Bool) (xs : List X) (n i : ℕ) → position_from test n xs ≡ Some i → n ≤ i
at_least test [] n i is = cc
at_least test (x ∷ xs) n i is =
    elim (cases_Bool (test x)) [
      | inl yes' ↦ (
          let same : n ≡ i = same_Some n i
          (ap (λ b. cond b (Some n) (position_from test (n + 1) xs)) (sym yes') ∙ is) in
          omega (arith, same))
      | inr no' ↦ (
          let rest : n + 1 ≤ i = at_least test xs (n + 1) i
          (ap (λ b. cond b (Some n) (position_from test (n + 1) xs)) (sym no') ∙ is) in
          omega (arith, rest))
    ]

module _ {X : Type 0} (test : X → Bool) where
  -- what is found is in this slot, and taken out of it
  abbrev pub IsThere : List (Option X) → ℕ → Type 0
  IsThere slots i =
      (find test (left_in slots) ≡ get_or slots i None) × (without_first test slots ≡ slice_set slots i None)

  found_from : (slots : List (Option X)) (n i : ℕ) → position_from (slot_holds test) n slots ≡ Some (n + i) →
      IsThere slots i
  found_from [] n i is = absurd cc
  found_from (None ∷ slots) n i is = by_index (λ j e. found_from slots (n + 1) j e) i is
    where
      by_index : ((j : ℕ) → position_from (slot_holds test) (n + 1) slots ≡ Some (n + 1 + j) → IsThere slots j) →
          (j : ℕ) → position_from (slot_holds test) (n + 1) slots ≡ Some (n + j) → IsThere (None ∷ slots) j
      by_index later zero is' =
          let least : n + 1 ≤ n + 0 = at_least (slot_holds test) slots (n + 1) (n + 0) is' in
          absurd (omega (arith, least))
      by_index later (suc j) is' =
          let next : n + suc j ≡ n + 1 + j = omega arith in
          let rest = later j (is' ∙ ap (λ k. Some k) next) in
          (rest.0, ap (λ ss. None ∷ ss) rest.1)
  found_from (Some x ∷ slots) n i is =
      elim (cases_Bool (test x)) [
        | inl yes' ↦ (
            let same : n ≡ n + i = same_Some n (n + i)
            (ap (λ b. cond b (Some n) (position_from (slot_holds test) (n + 1) slots)) (sym yes') ∙ is) in
            let first : i ≡ 0 = omega (arith, same) in
            subst (IsThere (Some x ∷ slots)) (sym first) (
              ap (λ b. cond b (Some x) (find test (left_in slots))) yes',
              ap (λ b. if b then None ∷ slots else Some x ∷ without_first test slots) yes',
            ))
        | inr no' ↦ by_index (λ j e. found_from slots (n + 1) j e) no' i
            (ap (λ b. cond b (Some n) (position_from (slot_holds test) (n + 1) slots)) (sym no') ∙ is)
      ]
    where
      by_index : ((j : ℕ) → position_from (slot_holds test) (n + 1) slots ≡ Some (n + 1 + j) → IsThere slots j) →
          test x ≡ false → (j : ℕ) → position_from (slot_holds test) (n + 1) slots ≡ Some (n + j) →
          IsThere (Some x ∷ slots) j
      by_index later other zero is' =
          let least : n + 1 ≤ n + 0 = at_least (slot_holds test) slots (n + 1) (n + 0) is' in
          absurd (omega (arith, least))
      by_index later other (suc j) is' =
          let next : n + suc j ≡ n + 1 + j = omega arith in
          let rest = later j (is' ∙ ap (λ k. Some k) next) in (
            ap (λ b. cond b (Some x) (find test (left_in slots))) other ∙ rest.0,
            ap (λ b. if b then None ∷ slots else Some x ∷ without_first test slots) other
                ∙ ap (λ ss. Some x ∷ ss) rest.1,
          )

  pub found_there : (slots : List (Option X)) (i : ℕ) → position_from (slot_holds test) 0 slots ≡ Some i →
      IsThere slots i
  found_there slots i is =
      let place : i ≡ 0 + i = omega arith in
      found_from slots 0 i (is ∙ ap (λ k. Some k) place)

  pub none_there : (slots : List (Option X)) (n : ℕ) → position_from (slot_holds test) n slots ≡ None →
      (find test (left_in slots) ≡ None) × (without_first test slots ≡ slots)
  none_there [] n is = (refl, refl)
  none_there (None ∷ slots) n is =
      let rest = none_there slots (n + 1) is in
      (rest.0, ap (λ ss. None ∷ ss) rest.1)
  none_there (Some x ∷ slots) n is =
      elim (cases_Bool (test x)) [
        | inl yes' ↦ (
            let same : Some n ≡ None =
            ap (λ b. cond b (Some n) (position_from (slot_holds test) (n + 1) slots)) (sym yes') ∙ is in
            absurd cc)
        | inr no' ↦ (
            let rest = none_there slots (n + 1)
            (ap (λ b. cond b (Some n) (position_from (slot_holds test) (n + 1) slots)) (sym no') ∙ is) in (
              ap (λ b. cond b (Some x) (find test (left_in slots))) no' ∙ rest.0,
              ap (λ b. if b then None ∷ slots else Some x ∷ without_first test slots) no'
                  ∙ ap (λ ss. Some x ∷ ss) rest.1,
            ))
      ]

-- the table that was found is taken out of the slot where it lay
module _ {A X : Type 0} (shown : A → X) (test : X → Bool) (slots : List (Option A)) (i : ℕ) (inside : i < length slots)
    (place : position_from (slot_holds test) 0 (map (option_map shown) slots) ≡ Some i) where
  pub taken_found : (slot : Option A) → slot ≡ get_or slots i slot →
      option_map shown slot ≡ find test (left_in (map (option_map shown) slots))
  taken_found slot is =
      ap (option_map shown) is ∙ sym (get_or-map (option_map shown) slots i slot None inside)
      ∙ sym (found_there test (map (option_map shown) slots) i place).0

  pub taken_left : (slot : Option A) → slot ≡ None →
      map (option_map shown) (slice_set slots i slot) ≡ without_first test (map (option_map shown) slots)
  taken_left slot none =
      ap (λ o. map (option_map shown) (slice_set slots i o)) none ∙ map-set (option_map shown) slots i None
      ∙ sym (found_there test (map (option_map shown) slots) i place).1
