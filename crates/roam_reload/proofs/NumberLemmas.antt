-- Which numbers two configurations keep.
use Rattle.std.proofs.Common.{◌≡◌, ℕ, ◌+◌, ◌<◌, ◌≤◌, ◌⊎◌, ◌↔◌, Bool, true, false, ◌||◌, inl, inr, List, Some, None, option_map, slice_get, map, length, get_or, refl, subst, sym, ap, ◌∙◌, arith}
use Rattle.std.proofs.lemmas.Bool.{cases_lt, true≢false}
use Rattle.std.proofs.lemmas.List.{length-map}
use Rattle.std.proofs.lemmas.Option.{none-some, same_Some, slice_get-map, slice_get_past, slice_get_read, slice_get_within}
use Rattle.std.specs.Prelude.{IsTrue}
use Rattle.roam_reload.specs.Numbers.{KeepAt, KeepEach, SameOrGone}

-- a table as it is shown, at its index
pub shown_at : {A X : Type 0} (shown : A → X) (xs : List A) (i : ℕ) (x : A) → i < length xs → x ≡ get_or xs i x →
    slice_get (map shown xs) i ≡ Some (shown x)
shown_at shown xs i x inside is =
    slice_get-map shown xs i ∙ ap (option_map shown) (slice_get_read xs (length xs) i x refl inside is)

pub shown_past : {A X : Type 0} (shown : A → X) (xs : List A) (i : ℕ) → length xs ≤ i →
    slice_get (map shown xs) i ≡ None
shown_past shown xs i past = slice_get-map shown xs i ∙ ap (option_map shown) (slice_get_past xs i past)

module _ {A X : Type 0} (shown : A → X) (same : X → X → Bool) (is_gone : X → Bool) (old new : List A) where
  abbrev Keeps : ℕ → Type 0
  Keeps i = KeepAt same is_gone (map shown old) (map shown new) i

  by_tests : (before after : X) (gone also : Bool) → is_gone after ≡ gone → same before after ≡ also →
      gone || also ≡ true → SameOrGone same is_gone before after
  by_tests before after true also went others is = inl went
  by_tests before after false also went others is = inr (others ∙ is)

  one_of : (before after : X) → SameOrGone same is_gone before after → is_gone after || same before after ≡ true
  one_of before after (inl went) = ap (λ b. b || same before after) went
  one_of before after (inr same_one) = ap (λ b. is_gone after || b) same_one ∙ or_true (is_gone after)
    where
      or_true : (b : Bool) → b || true ≡ true
      or_true true = refl
      or_true false = refl

  -- who stands there tells
  pub tells : (i : ℕ) (before after : A) (result : Bool) → i < length old → before ≡ get_or old i before →
      i < length new → after ≡ get_or new i after →
      result ≡ (is_gone (shown after) || same (shown before) (shown after)) → IsTrue result ↔ Keeps i
  tells i before after result in_old was in_new is told = (
    λ yes'. λ b there.
        let it : shown before ≡ b = same_Some _ _ (sym (shown_at shown old i before in_old was) ∙ there) in
        subst (λ (x : X). (y : X) × (slice_get (map shown new) i ≡ Some y) × SameOrGone same is_gone x y) it (
          shown after,
          shown_at shown new i after in_new is,
          by_tests (shown before) (shown after) _ _ refl refl (sym told ∙ yes'),
        ),
    λ keep.
        let kept = keep (shown before) (shown_at shown old i before in_old was) in
        let it : kept.0 ≡ shown after = same_Some _ _ (sym kept.1 ∙ shown_at shown new i after in_new is) in
        told ∙ one_of (shown before) (shown after) (subst (SameOrGone same is_gone (shown before)) it kept.2),
  )

  -- nobody does
  pub tells_none : (i : ℕ) (before : A) (result : Bool) → i < length old → before ≡ get_or old i before →
      length new ≤ i → result ≡ false → IsTrue result ↔ Keeps i
  tells_none i before result in_old was past told = (
    λ yes'. absurd (true≢false (sym yes' ∙ told)),
    λ keep.
        let kept = keep (shown before) (shown_at shown old i before in_old was) in
        absurd (none-some kept.0 (sym (shown_past shown new i past) ∙ kept.1)),
  )

  -- the first ones are kept
  abbrev pub KeepsFirst : ℕ → Type 0
  KeepsFirst n = (i : ℕ) → i < n → Keeps i

  pub none_first : KeepsFirst 0
  none_first = λ i small. absurd (omega (arith, small))

  pub one_more : (n : ℕ) (told : Bool) → KeepsFirst n → (IsTrue told ↔ Keeps n) → told ≡ true → KeepsFirst (n + 1)
  one_more n told first also yes' = λ i small. by_order i small (cases_lt i n)
    where
      by_order : (i : ℕ) → i < n + 1 → (i < n) ⊎ (n ≤ i) → Keeps i
      by_order i small (inl before) = first i before
      by_order i small (inr at) =
          let it : n ≡ i = omega (arith, small, at) in
          subst Keeps it (also.0 yes')

  pub all_kept : (n : ℕ) → length old ≤ n → KeepsFirst n → KeepEach same is_gone (map shown old) (map shown new)
  all_kept n end first = λ number before there.
      let inside : number < length (map shown old) = slice_get_within (map shown old) number before there in
      first number (omega (arith, inside, length-map old shown, end)) before there

  pub not_kept : (n : ℕ) (told : Bool) → (IsTrue told ↔ Keeps n) → told ≡ false →
      KeepEach same is_gone (map shown old) (map shown new) → ⊥
  not_kept n told also no' all = true≢false (sym (also.1 (all n)) ∙ no')
