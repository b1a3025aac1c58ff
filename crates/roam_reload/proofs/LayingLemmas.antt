-- Tables that are laid out by older ones: what is found in slots, and what is left there.
use Rattle.std.proofs.Common.{◌≡◌, ℕ, zero, suc, ◌+◌, ◌<◌, ◌≤◌, Bool, true, false, ◌||◌, not, cond, inl, inr, List, [], ◌∷◌, ◌++◌, Option, Some, None, option_map, slice_get, unwrap_or, map, length, get_or, take, drop, refl, sym, ap, ◌∙◌, arith}
use Rattle.std.proofs.lemmas.Bool.{cases_Bool, or_parts, false≢true}
use Rattle.std.proofs.lemmas.List.{drop_more, get_or-map, length-append, length-map, map-append, take-append-drop, take_all, take_more}
use Rattle.std.specs.List.{find, list_any}
use Rattle.std.specs.Prelude.{filter, if◌then◌else◌}
use Rattle.roam_conf.specs.Duplicates.{has_pair}
use Rattle.roam_reload.specs.Laying.{left_in, slot_then, slots_then, without_first}
use Rattle.roam_reload.specs.Numbers.{KeepEach, SameOrGone, laid_by}

or_true : (b : Bool) → b || true ≡ true
or_true true = refl
or_true false = refl

or_false : (b : Bool) → b || false ≡ b
or_false true = refl
or_false false = refl

or_assoc : (a b c : Bool) → a || (b || c) ≡ (a || b) || c
or_assoc true b c = refl
or_assoc false b c = refl

-- tables that meet in a third are the same, as are two that are the same as one
module _ {X : Type 0} (same : X → X → Bool)
    (meet : (t x y : X) → same t y ≡ true → same x y ≡ true → same t x ≡ true)
    (part : (x y z : X) → same x y ≡ true → same x z ≡ true → same y z ≡ true) where
  -- one of these tables is the same
  abbrev is_taken : List X → X → Bool
  is_taken taken y = list_any (λ t. same t y) taken

  taken_through : (taken : List X) (x y : X) → is_taken taken y ≡ true → same x y ≡ true → is_taken taken x ≡ true
  taken_through [] x y is both = absurd (false≢true is)
  taken_through (t ∷ ts) x y is both =
      elim (cases_Bool (same t y)) [
        | inl yes' ↦ ap (λ b. b || is_taken ts x) (meet t x y yes' both)
        | inr no' ↦ (
            let rest : is_taken ts y ≡ true = ap (λ b. b || is_taken ts y) (sym no') ∙ is in
            ap (λ b. same t x || b) (taken_through ts x y rest both) ∙ or_true (same t x))
      ]

  also_taken : (taken : List X) (x z : X) → is_taken (taken ++ x ∷ []) z ≡ is_taken taken z || same x z
  also_taken [] x z = or_false (same x z)
  also_taken (t ∷ ts) x z =
      ap (λ b. same t z || b) (also_taken ts x z) ∙ or_assoc (same t z) (is_taken ts z) (same x z)

  not_also : (taken : List X) (x z : X) → same x z ≡ false → is_taken (taken ++ x ∷ []) z ≡ is_taken taken z
  not_also taken x z other =
      also_taken taken x z ∙ ap (λ b. is_taken taken z || b) other ∙ or_false (is_taken taken z)

  -- what wasn't taken is found in the slots as in the list
  pub found_in_slots : (taken new : List X) (x : X) → is_taken taken x ≡ false →
      find (same x) (left_in (slots_then same taken new)) ≡ find (same x) new
  found_in_slots taken [] x apart = refl
  found_in_slots taken (y ∷ ys) x apart =
      let later : List (Option X) = slots_then same taken ys in
      let first : Bool → Option X = λ b. find (same x) (left_in ((if b then None else Some y) ∷ later)) in
      elim (cases_Bool (is_taken taken y)) [
        | inl yes' ↦ ap first yes' ∙ found_in_slots taken ys x apart
            ∙ ap (λ b. cond b (Some y) (find (same x) ys)) (sym (other y yes'))
        | inr no' ↦ ap first no' ∙ ap (cond (same x y) (Some y)) (found_in_slots taken ys x apart)
      ]
    where
      other : (y : X) → is_taken taken y ≡ true → same x y ≡ false
      other y is =
          elim (cases_Bool (same x y)) [
            | inl both ↦ absurd (false≢true (sym apart ∙ taken_through taken x y is both))
            | inr no' ↦ no'
          ]

  -- where one was taken out, no other is the same
  none_more : (taken ys : List X) (x y : X) → same x y ≡ true → list_any (same y) ys ≡ false →
      slots_then same taken ys ≡ slots_then same (taken ++ x ∷ []) ys
  none_more taken [] x y both apart = refl
  none_more taken (z ∷ zs) x y both apart =
      let parts = or_parts (same y z) (list_any (same y) zs) apart in
      let other : same x z ≡ false =
      elim (cases_Bool (same x z)) [
        | inl yes' ↦ absurd (false≢true (sym parts.0 ∙ part x y z both yes'))
        | inr no' ↦ no'
      ] in
      ap (λ (b : Bool). (if b then None else Some z) ∷ slots_then same taken zs) (sym (not_also taken x z other))
      ∙ ap (λ ss. slot_then same (taken ++ x ∷ []) z ∷ ss) (none_more taken zs x y both parts.1)

  pub taken_out : (taken new : List X) (x : X) → has_pair same new ≡ false →
      without_first (same x) (slots_then same taken new) ≡ slots_then same (taken ++ x ∷ []) new
  taken_out taken [] x apart = refl
  taken_out taken (y ∷ ys) x apart =
      let parts = or_parts (list_any (same y) ys) (has_pair same ys) apart in
      let now : List (Option X) = slots_then same taken ys in
      let later : List (Option X) = slots_then same (taken ++ x ∷ []) ys in
      let rest : without_first (same x) now ≡ later = taken_out taken ys x parts.1 in
      let first : Bool → List (Option X) = λ b. without_first (same x) ((if b then None else Some y) ∷ now) in
      let slot : Bool → List (Option X) = λ b. (if b then None else Some y) ∷ later in
      elim (cases_Bool (is_taken taken y)) [
        | inl yes' ↦ (
            let still : is_taken (taken ++ x ∷ []) y ≡ true =
            also_taken taken x y ∙ ap (λ b. b || same x y) yes' in
            ap first yes' ∙ ap (λ ss. None ∷ ss) rest ∙ ap slot (sym still))
        | inr no' ↦ elim (cases_Bool (same x y)) [
          | inl both ↦ (
              let gone : is_taken (taken ++ x ∷ []) y ≡ true =
              also_taken taken x y ∙ ap (λ b. is_taken taken y || b) both ∙ or_true (is_taken taken y) in
              ap first no' ∙ ap (λ b. if b then None ∷ now else Some y ∷ without_first (same x) now) both
              ∙ ap (λ ss. None ∷ ss) (none_more taken ys x y both parts.0) ∙ ap slot (sym gone))
          | inr other ↦ (
              let here : is_taken (taken ++ x ∷ []) y ≡ false = not_also taken x y other ∙ no' in
              ap first no' ∙ ap (λ b. if b then None ∷ now else Some y ∷ without_first (same x) now) other
              ∙ ap (λ ss. Some y ∷ ss) rest ∙ ap slot (sym here))
        ]
      ]

-- the tables of further names are left
pub left_over : {X : Type 0} (same : X → X → Bool) (old new : List X) →
    left_in (slots_then same old new) ≡ filter (λ y. not (list_any (λ t. same t y) old)) new
left_over same old [] = refl
left_over {X} same old (y ∷ ys) = by_test (list_any (λ t. same t y) old) _ (left_over same old ys)
  where
    by_test : (b : Bool) (rest : List X) → left_in (slots_then same old ys) ≡ rest →
        left_in ((if b then None else Some y) ∷ slots_then same old ys) ≡ cond (not b) (y ∷ rest) rest
    by_test true rest is = is
    by_test false rest is = ap (λ l. y ∷ l) is

-- a table isn't the same as one in front of it
later_apart : {X : Type 0} (same : X → X → Bool) (t x : X) (front back : List X) →
    list_any (same t) (front ++ x ∷ back) ≡ false → same t x ≡ false
later_apart same t x [] back apart = (or_parts (same t x) (list_any (same t) back) apart).0
later_apart same t x (u ∷ front) back apart =
    later_apart same t x front back (or_parts (same t u) (list_any (same t) (front ++ x ∷ back)) apart).1

pub front_apart : {X : Type 0} (same : X → X → Bool) (front back : List X) (x : X) →
    has_pair same (front ++ x ∷ back) ≡ false → list_any (λ t. same t x) front ≡ false
front_apart same [] back x apart = refl
front_apart same (t ∷ ts) back x apart =
    let parts = or_parts (list_any (same t) (ts ++ x ∷ back)) (has_pair same (ts ++ x ∷ back)) apart in
    ap (λ b. b || list_any (λ u. same u x) ts) (later_apart same t x ts back parts.0)
    ∙ front_apart same ts back x parts.1

-- fewer pairs by a closer test
fewer_any : {X : Type 0} (p q : X → Bool) → ((x : X) → q x ≡ true → p x ≡ true) → (xs : List X) →
    list_any p xs ≡ false → list_any q xs ≡ false
fewer_any p q closer [] none = refl
fewer_any p q closer (x ∷ xs) none =
    let parts = or_parts (p x) (list_any p xs) none in
    elim (cases_Bool (q x)) [
      | inl yes' ↦ absurd (false≢true (sym parts.0 ∙ closer x yes'))
      | inr no' ↦ ap (λ b. b || list_any q xs) no' ∙ fewer_any p q closer xs parts.1
    ]

pub fewer_pairs : {X : Type 0} (p q : X → X → Bool) → ((x y : X) → q x y ≡ true → p x y ≡ true) → (xs : List X) →
    has_pair p xs ≡ false → has_pair q xs ≡ false
fewer_pairs p q closer [] none = refl
fewer_pairs p q closer (x ∷ xs) none =
    let parts = or_parts (list_any (p x) xs) (has_pair p xs) none in
    ap (λ b. b || has_pair q xs) (fewer_any (p x) (q x) (closer x) xs parts.0)
    ∙ fewer_pairs p q closer xs parts.1

-- ---- what is laid out keeps each number

found_passes : {X : Type 0} (test : X → Bool) (xs : List X) (y : X) → find test xs ≡ Some y → test y ≡ true
found_passes test [] y is = cc
found_passes test (x ∷ xs) y is =
    elim (cases_Bool (test x)) [
      | inl yes' ↦ (
          let same : Some x ≡ Some y = ap (λ b. cond b (Some x) (find test xs)) (sym yes') ∙ is in
          ap test (sym (ap (λ o. unwrap_or o x) same)) ∙ yes')
      | inr no' ↦ found_passes test xs y (ap (λ b. cond b (Some x) (find test xs)) (sym no') ∙ is)
    ]

laid_at : {X : Type 0} (next : X → X) (old more : List X) (number : ℕ) (before : X) →
    slice_get old number ≡ Some before → slice_get (map next old ++ more) number ≡ Some (next before)
laid_at next [] more number before is = cc
laid_at next (x ∷ old) more zero before is = ap (option_map next) is
laid_at next (x ∷ old) more (suc number) before is = laid_at next old more number before is

pub keeps_each : {X : Type 0} (same : X → X → Bool) (gone : X → X) (is_gone : X → Bool) →
    ((x : X) → is_gone (gone x) ≡ true) → (old new : List X) → KeepEach same is_gone old (laid_by same gone old new)
keeps_each {X} same gone is_gone gone_is old new = λ number before is.
    let next : X → X = λ x. unwrap_or (find (same x) new) (gone x) in (
      next before,
      laid_at next old (filter (λ y. not (list_any (λ t. same t y) old)) new) number before is,
      by_found before (find (same before) new) refl,
    )
  where
    by_found : (before : X) (o : Option X) → find (same before) new ≡ o →
        SameOrGone same is_gone before (unwrap_or o (gone before))
    by_found before None is = inl (gone_is before)
    by_found before (Some y) is = inr (found_passes (same before) new y is)

-- ---- one old table after the other

module _ {A X : Type 0} (shown : A → X) (same : X → X → Bool)
    (meet : (t x y : X) → same t y ≡ true → same x y ≡ true → same t x ≡ true)
    (part : (x y z : X) → same x y ≡ true → same x z ≡ true → same y z ≡ true) (gone : X → X) (old : List A)
    (new : List X) (i : ℕ) (a : A) (inside : i < length old) (is : a ≡ get_or old i a)
    (old_apart : has_pair same (map shown old) ≡ false) (new_apart : has_pair same new ≡ false)
    (slots : List (Option X)) (stand : slots ≡ slots_then same (take i (map shown old)) new) where
  abbrev olds : List X
  olds = map shown old

  abbrev next : X → X
  next x = unwrap_or (find (same x) new) (gone x)

  shorter : i < length olds
  shorter = rw (length-map old shown) inside

  here : get_or olds i (shown a) ≡ shown a
  here = get_or-map shown old i a (shown a) inside ∙ ap shown (sym is)

  front : take (i + 1) olds ≡ take i olds ++ shown a ∷ []
  front = take_more olds i (shown a) shorter ∙ ap (λ x. take i olds ++ x ∷ []) here

  untaken : list_any (λ t. same t (shown a)) (take i olds) ≡ false
  untaken =
      let behind : shown a ∷ drop (i + 1) olds ≡ drop i olds =
      ap (λ x. x ∷ drop (i + 1) olds) (sym here) ∙ sym (drop_more olds i (shown a) shorter) in
      let all : take i olds ++ shown a ∷ drop (i + 1) olds ≡ olds =
      ap (λ l. take i olds ++ l) behind ∙ take-append-drop i olds in
      front_apart same (take i olds) (drop (i + 1) olds) (shown a) (ap (has_pair same) all ∙ old_apart)

  -- its new table is found, or it went
  pub one_laid : (laid more : List A) (b : A) → more ≡ laid ++ b ∷ [] → map shown laid ≡ map next (take i olds) →
      shown b ≡ unwrap_or (find (same (shown a)) (left_in slots)) (gone (shown a)) →
      map shown more ≡ map next (take (i + 1) olds)
  one_laid laid more b grown before table =
      let found : find (same (shown a)) (left_in slots) ≡ find (same (shown a)) new =
      ap (λ ss. find (same (shown a)) (left_in ss)) stand
      ∙ found_in_slots same meet part (take i olds) new (shown a) untaken in
      ap (map shown) grown ∙ map-append shown laid (b ∷ []) ∙ ap (λ xs. xs ++ shown b ∷ []) before
      ∙ ap (λ x. map next (take i olds) ++ x ∷ []) (table ∙ ap (λ o. unwrap_or o (gone (shown a))) found)
      ∙ sym (map-append next (take i olds) (shown a ∷ [])) ∙ ap (map next) (sym front)

  -- and its slot is empty
  pub slots_more : without_first (same (shown a)) slots ≡ slots_then same (take (i + 1) olds) new
  slots_more =
      ap (without_first (same (shown a))) stand ∙ taken_out same meet part (take i olds) new (shown a) new_apart
      ∙ ap (λ taken. slots_then same taken new) (sym front)

-- all are laid out, and what is left stands behind them
pub all_laid : {X : Type 0} (same : X → X → Bool) (gone : X → X) (old new : List X) (i : ℕ) (laid : List X)
    (slots : List (Option X)) → length old ≤ i →
    laid ≡ map (λ x. unwrap_or (find (same x) new) (gone x)) (take i old) → slots ≡ slots_then same (take i old) new →
    laid ++ left_in slots ≡ laid_by same gone old new
all_laid {X} same gone old new i laid slots end is stand =
    let next : X → X = λ x. unwrap_or (find (same x) new) (gone x) in
    let all : take i old ≡ old = take_all i old end in
    ap (λ xs. xs ++ left_in slots) (is ∙ ap (map next) all)
    ∙ ap (λ ss. map next old ++ left_in ss) (stand ∙ ap (λ taken. slots_then same taken new) all)
    ∙ ap (λ l. map next old ++ l) (left_over same old new)

-- ---- the lists that are laid out

pub laid_alike : {X : Type 0} (same : X → X → Bool) (gone : X → X) (laid old older new newer : List X) →
    laid ≡ laid_by same gone old new → old ≡ older → new ≡ newer → laid ≡ laid_by same gone older newer
laid_alike same gone laid old older new newer is olds news =
    is ∙ ap (λ o. laid_by same gone o new) olds ∙ ap (laid_by same gone older) news

-- none of the old numbers is lost
pub laid_long : {X : Type 0} (same : X → X → Bool) (gone : X → X) (laid old new : List X) →
    laid ≡ laid_by same gone old new → length old ≤ length laid
laid_long {X} same gone laid old new is =
    let next : X → X = λ x. unwrap_or (find (same x) new) (gone x) in
    let rest = filter (λ y. not (list_any (λ t. same t y) old)) new in
    omega (arith, ap length is, length-append (map next old) rest, length-map old next)
