-- A list in order of ticket is what is found in it by its tickets.
use Rattle.std.proofs.Common.{◌≡◌, ◌≢◌, ℕ, ◌<◌, List, [], ◌∷◌, Option, Some, None, refl, ap, sym, subst, ◌∙◌, arith, inl, inr}
use Rattle.std.specs.Prelude.{option_and_then}
use Rattle.std.specs.List.{cons_option, filter_map}
use Rattle.std.proofs.lemmas.Bool.{cases_Bool, cases_eq}
use Rattle.std.proofs.lemmas.Option.{same_Some}
use Rattle.roam_pending.specs.EntryList.{IsInOrder, find_ticket}
use Rattle.roam_pending.specs.ListLaws.{IsIn}
use Rattle.roam_pending.specs.PlainEntry.{PlainEntry, has_ticket}
use Rattle.roam_pending.proofs.OrderLemmas.{IsAbove, find-above}
use Rattle.roam_pending.proofs.TestLemmas.{same, differs, compared}

pub first_found : (e : PlainEntry) (es : List PlainEntry) → find_ticket e.ticket (e ∷ es) ≡ Some e
first_found e es = rw (same e.ticket e.ticket refl) refl

pub later_found : (t : ℕ) (e : PlainEntry) (es : List PlainEntry) → t ≢ e.ticket
    → find_ticket t (e ∷ es) ≡ find_ticket t es
later_found t e es ne = rw (differs e.ticket t (λ is. ne (sym is))) refl

none_lower : (t : ℕ) (e : PlainEntry) (es : List PlainEntry) → IsInOrder (e ∷ es) → t < e.ticket
    → find_ticket t (e ∷ es) ≡ None
none_lower t e es order less =
    later_found t e es (λ is. omega (arith, less, is)) ∙ find-above e.ticket t es (omega (arith, less)) order.0

-- what is found is in it, and the other way round
pub found_in : (t : ℕ) (es : List PlainEntry) (e : PlainEntry) → find_ticket t es ≡ Some e → IsIn e es
found_in t [] e at = absurd (let k : None ≡ Some e = at in cc)
found_in t (x ∷ xs) e at =
    elim (cases_Bool (has_ticket t x)) [
      | inl y ↦ inl (same_Some x e (rw y at at))
      | inr n ↦ inr (found_in t xs e (rw n at at))
    ]

pub all_in : (s : ℕ) (es : List PlainEntry) (e : PlainEntry) → IsAbove s es → IsIn e es → s < e.ticket
all_in s [] e h held = absurd held
all_in s (x ∷ xs) e h held =
    elim held [
      | inl is ↦ subst (λ (y : PlainEntry). s < y.ticket) is h.0
      | inr later ↦ all_in s xs e h.1 later
    ]

pub in_found : (es : List PlainEntry) (e : PlainEntry) → IsInOrder es → IsIn e es → find_ticket e.ticket es ≡ Some e
in_found [] e order held = absurd held
in_found (x ∷ xs) e order held =
    elim held as (λ _. find_ticket e.ticket (x ∷ xs) ≡ Some e) [
      | inl is ↦ subst (λ (y : PlainEntry). find_ticket y.ticket (x ∷ xs) ≡ Some y) is (first_found x xs)
      | inr later ↦ (
          let above = all_in x.ticket xs e order.0 later in
          later_found e.ticket x xs (λ is. omega (arith, above, is)) ∙ in_found xs e order.1 later)
    ]

-- two lists in order in which the same is found are one
abbrev FindsSame : List PlainEntry → List PlainEntry → Type 0
FindsSame xs ys = (t : ℕ) → find_ticket t xs ≡ find_ticket t ys

tails_same : (x y : PlainEntry) (xs ys : List PlainEntry) → IsInOrder (x ∷ xs) → IsInOrder (y ∷ ys)
    → x.ticket ≡ y.ticket → FindsSame (x ∷ xs) (y ∷ ys) → FindsSame xs ys
tails_same x y xs ys a b at h t =
    elim (cases_eq t x.ticket) as (λ _. find_ticket t xs ≡ find_ticket t ys) [
      | inl is ↦ (
          find-above x.ticket t xs (omega (arith, is)) a.0
          ∙ sym (find-above y.ticket t ys (omega (arith, is, at)) b.0))
      | inr ne ↦ (
          sym (later_found t x xs ne) ∙ h t ∙ later_found t y ys (λ is. ne (omega (arith, is, at))))
    ]

pub same_by_ticket : (xs ys : List PlainEntry) → IsInOrder xs → IsInOrder ys → FindsSame xs ys → xs ≡ ys
same_by_ticket [] [] a b h = refl
same_by_ticket [] (y ∷ ys) a b h = absurd (let k : None ≡ Some y = h y.ticket ∙ first_found y ys in cc)
same_by_ticket (x ∷ xs) [] a b h = absurd (let k : Some x ≡ None = sym (first_found x xs) ∙ h x.ticket in cc)
same_by_ticket (x ∷ xs) (y ∷ ys) a b h =
    elim (compared x.ticket y.ticket) as (λ _. x ∷ xs ≡ y ∷ ys) [
      | inl less ↦ absurd (
          let k : Some x ≡ None = sym (first_found x xs) ∙ h x.ticket ∙ none_lower x.ticket y ys b less in cc)
      | inr rest ↦ elim rest as (λ _. x ∷ xs ≡ y ∷ ys) [
        | inl at ↦ (
            let heads : Some x ≡ Some y = sym (first_found x xs) ∙ h x.ticket
            ∙ ap (λ (t : ℕ). find_ticket t (y ∷ ys)) at ∙ first_found y ys in
            let head : x ≡ y = same_Some x y heads in
            let tail : xs ≡ ys = same_by_ticket xs ys a.1 b.1 (tails_same x y xs ys a b at h) in
            ap (λ (z : PlainEntry). z ∷ xs) head ∙ ap (λ (zs : List PlainEntry). y ∷ zs) tail)
        | inr more ↦ absurd (
            let k : None ≡ Some y = sym (none_lower y.ticket x xs a more) ∙ h y.ticket ∙ first_found y ys in cc)
      ]
    ]

-- ---- those that stay of a list, each with its ticket

module _ (f : PlainEntry → Option PlainEntry)
    (own : (x y : PlainEntry) → f x ≡ Some y → y.ticket ≡ x.ticket) where
  above_by : (s : ℕ) (x : PlainEntry) (o : Option PlainEntry) (ys : List PlainEntry) → f x ≡ o → s < x.ticket
      → IsAbove s ys → IsAbove s (cons_option o ys)
  above_by s x None ys is less h = h
  above_by s x (Some y) ys is less h = (omega (arith, less, own x y is), h)

  pub above_kept : (s : ℕ) (es : List PlainEntry) → IsAbove s es → IsAbove s (filter_map f es)
  above_kept s [] h = tt
  above_kept s (x ∷ xs) h = above_by s x (f x) (filter_map f xs) refl h.0 (above_kept s xs h.1)

  order_by : (x : PlainEntry) (o : Option PlainEntry) (ys : List PlainEntry) → f x ≡ o
      → IsAbove x.ticket ys → IsInOrder ys → IsInOrder (cons_option o ys)
  order_by x None ys is above order = order
  order_by x (Some y) ys is above order =
      (subst (λ (t : ℕ). IsAbove t ys) (sym (own x y is)) above, order)

  pub order_kept : (es : List PlainEntry) → IsInOrder es → IsInOrder (filter_map f es)
  order_kept [] h = tt
  order_kept (x ∷ xs) h =
      order_by x (f x) (filter_map f xs) refl (above_kept x.ticket xs h.0) (order_kept xs h.1)

  here_by : (t : ℕ) (x : PlainEntry) (xs : List PlainEntry) (o : Option PlainEntry) → f x ≡ o → x.ticket ≡ t
      → IsAbove x.ticket xs → find_ticket t (cons_option o (filter_map f xs)) ≡ o
  here_by t x xs None is at above =
      find-above x.ticket t (filter_map f xs) (omega (arith, at)) (above_kept x.ticket xs above)
  here_by t x xs (Some y) is at above =
      ap (λ (n : ℕ). find_ticket n (y ∷ filter_map f xs)) (sym at ∙ sym (own x y is)) ∙ first_found y (filter_map f xs)

  away_by : (t : ℕ) (x : PlainEntry) (xs : List PlainEntry) (o : Option PlainEntry) → f x ≡ o → t ≢ x.ticket
      → find_ticket t (cons_option o (filter_map f xs)) ≡ find_ticket t (filter_map f xs)
  away_by t x xs None is ne = refl
  away_by t x xs (Some y) is ne = later_found t y (filter_map f xs) (λ k. ne (k ∙ own x y is))

  pub found_kept : (t : ℕ) (es : List PlainEntry) → IsInOrder es
      → find_ticket t (filter_map f es) ≡ option_and_then f (find_ticket t es)
  found_kept t [] order = refl
  found_kept t (x ∷ xs) order =
      elim (cases_eq t x.ticket)
      as (λ _. find_ticket t (filter_map f (x ∷ xs)) ≡ option_and_then f (find_ticket t (x ∷ xs))) [
        | inl is ↦ (
            here_by t x xs (f x) refl (sym is) order.0
            ∙ sym (ap (option_and_then f) (ap (λ (n : ℕ). find_ticket n (x ∷ xs)) is ∙ first_found x xs)))
        | inr ne ↦ (
            away_by t x xs (f x) refl ne ∙ found_kept t xs order.1
            ∙ sym (ap (option_and_then f) (later_found t x xs ne)))
      ]
