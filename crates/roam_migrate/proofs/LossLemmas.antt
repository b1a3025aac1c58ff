-- A walk over all entries of a realm, in order of deadline and ticket: how many of those that were read pass a test.
use Rattle.std.proofs.Common.{◌≡◌, ◌⊎◌, ℕ, ◌+◌, ◌<◌, ◌≤◌, ◌&&◌, Bool, true, false, not, List, [], ◌∷◌, Option, Some, None, refl, sym, ap, subst, ◌∙◌, arith, inl, inr, length}
use Rattle.std.specs.List.{AllByRecursion}
use Rattle.std.specs.Option.{option_map_or}
use Rattle.std.proofs.lemmas.Bool.{cases_Bool}
use Rattle.std.proofs.lemmas.Bool.Decides.{nat_tests}
use Rattle.roam_pending.specs.declared.due.Due.{Due}
use Rattle.roam_pending.specs.DueOrder.{due_at, is_after, is_before}
use Rattle.roam_pending.specs.EntryList.{IsInOrder, find_ticket}
use Rattle.roam_pending.specs.ListLaws.{IsIn, IsNextEntry}
use Rattle.roam_pending.specs.PlainEntry.{PlainEntry}
use Rattle.roam_pending.proofs.TestLemmas.{differs, same}
use Rattle.roam_migrate.specs.Private.Lost.{counted, one_if}

-- an entry was read: it stands at the last one, or before it
abbrev pub is_read : Option Due → PlainEntry → Bool
is_read last e = not (is_after last (due_at e))

-- how many of those that were read pass a test
abbrev pub counted_read : (PlainEntry → Bool) → Option Due → List PlainEntry → ℕ
counted_read p last es = counted (λ e. p e && is_read last e) es

-- ---- counts

pub counted_first : {X : Type 0} (p : X → Bool) (x : X) (xs : List X) →
    counted p (x ∷ xs) ≡ one_if (p x) + counted p xs
counted_first p x xs =
    elim (cases_Bool (p x)) [
      | inl y ↦ rw y (omega arith)
      | inr n ↦ rw n (omega arith)
    ]

same_counts : {X : Type 0} (p q : X → Bool) (xs : List X) → ((x : X) → IsIn x xs → q x ≡ p x) →
    counted q xs ≡ counted p xs
same_counts p q [] each = refl
same_counts p q (x ∷ xs) each =
    counted_first q x xs
    ∙ ap (λ (n : ℕ). one_if (q x) + n) (same_counts p q xs (λ y at. each y (inr at)))
    ∙ ap (λ (b : Bool). one_if b + counted p xs) (each x (inl refl))
    ∙ sym (counted_first p x xs)

one_at_most : (b : Bool) → one_if b ≤ 1
one_at_most true = omega arith
one_at_most false = omega arith

pub few_count : {X : Type 0} (p : X → Bool) (xs : List X) → counted p xs ≤ length xs
few_count p [] = omega arith
few_count p (x ∷ xs) = omega (arith, counted_first p x xs, one_at_most (p x), few_count p xs)

-- ---- entries, by their tickets

of_each : {X : Type 0} (P : X → Type 0) (xs : List X) (x : X) → AllByRecursion P xs → IsIn x xs → P x
of_each P [] x h at = absurd at
of_each P (y ∷ ys) x h (inl is) = subst P is h.0
of_each P (y ∷ ys) x h (inr at) = of_each P ys x h.1 at

-- one that stands behind another has a greater ticket
behind : (y : PlainEntry) (ys : List PlainEntry) (x : PlainEntry)
    → AllByRecursion (λ z. y.ticket < z.ticket) ys → IsIn x ys → y.ticket < x.ticket
behind y ys x h at = of_each (λ z. y.ticket < z.ticket) ys x h at

one_ticket : (es : List PlainEntry) (x e : PlainEntry) → IsInOrder es → IsIn x es → IsIn e es → x.ticket ≡ e.ticket →
    x ≡ e
one_ticket [] x e order at there is = absurd at
one_ticket (y ∷ ys) x e order (inl first) (inl also) is = sym first ∙ also
one_ticket (y ∷ ys) x e order (inl first) (inr later) is =
    absurd (omega (arith, behind y ys e order.0 later, ap (λ (z : PlainEntry). z.ticket) first, is))
one_ticket (y ∷ ys) x e order (inr later) (inl first) is =
    absurd (omega (arith, behind y ys x order.0 later, ap (λ (z : PlainEntry). z.ticket) first, is))
one_ticket (y ∷ ys) x e order (inr at) (inr there) is = one_ticket ys x e order.1 at there is

found_there : (es : List PlainEntry) (e : PlainEntry) → IsInOrder es → IsIn e es → find_ticket e.ticket es ≡ Some e
found_there [] e order at = absurd at
found_there (y ∷ ys) e order (inl is) =
    let passes = same y.ticket e.ticket (ap (λ (z : PlainEntry). z.ticket) is) in
    rw passes (ap (λ (z : PlainEntry). Some z) is)
found_there (y ∷ ys) e order (inr at) =
    let less = behind y ys e order.0 at in
    let fails = differs y.ticket e.ticket (λ is. absurd (omega (arith, less, is))) in
    rw fails (found_there ys e order.1 at)

-- ---- two tests that tell one entry alone apart

one_apart :
    (p q : PlainEntry → Bool) (es : List PlainEntry) (e : PlainEntry) → IsInOrder es → IsIn e es
    → p e ≡ false → ((x : PlainEntry) → IsIn x es → (x ≡ e) ⊎ (q x ≡ p x))
    → counted q es ≡ counted p es + one_if (q e)
one_apart p q [] e order at off each = absurd at
one_apart p q (y ∷ ys) e order (inl is) off each =
    let others : (x : PlainEntry) → IsIn x ys → q x ≡ p x = λ x there. elim (each x (inr there)) as (λ _. q x ≡ p x) [
      | inl also ↦
          absurd (omega (arith, behind y ys x order.0 there, ap (λ (z : PlainEntry). z.ticket) (is ∙ sym also)))
      | inr same ↦ same
    ] in
    let rest = same_counts p q ys others in
    let own = ap p is ∙ off in
    let none = ap one_if own in
    let one = ap (λ (z : PlainEntry). one_if (q z)) is in
    omega (arith, counted_first q y ys, counted_first p y ys, rest, none, one)
one_apart p q (y ∷ ys) e order (inr at) off each =
    let rest = one_apart p q ys e order.1 at off (λ x there. each x (inr there)) in
    let same : q y ≡ p y = elim (each y (inl refl)) as (λ _. q y ≡ p y) [
      | inl is ↦ absurd (omega (arith, behind y ys e order.0 at, ap (λ (z : PlainEntry). z.ticket) is))
      | inr equal ↦ equal
    ] in
    let first = ap one_if same in
    omega (arith, counted_first q y ys, counted_first p y ys, rest, first)

-- where one doesn't pass, they are fewer
spare : (p : PlainEntry → Bool) (es : List PlainEntry) (e : PlainEntry) → IsIn e es → p e ≡ false →
    counted p es + 1 ≤ length es
spare p [] e at off = absurd at
spare p (y ∷ ys) e (inl is) off =
    let none = ap one_if (ap p is ∙ off) in
    omega (arith, counted_first p y ys, none, few_count p ys)
spare p (y ∷ ys) e (inr at) off =
    omega (arith, counted_first p y ys, one_at_most (p y), spare p ys e at off)

-- ---- the walk

not_itself : (d : Due) → is_before d d ≡ false
not_itself d = grind (arith, nat_tests)

before_none : (a b c : Due) → is_before a b ≡ true → is_before a c ≡ false → is_before b c ≡ false
before_none a b c h k = grind (arith, nat_tests, h, k)

-- what isn't after the last one isn't after the next one
stays_read : (last : Option Due) (d x : Due) → is_after last d ≡ true → is_after last x ≡ false →
    is_after (Some d) x ≡ false
stays_read None d x h k = absurd (let both : true ≡ false = k in cc)
stays_read (Some l) d x h k = before_none l d x h k

-- the next one alone is read that wasn't
told_apart : (last : Option Due) (es : List PlainEntry) (d : Due) → IsInOrder es → (next : IsNextEntry last es d)
    → (x : PlainEntry) → IsIn x es
    → (x ≡ next.entry) ⊎ (is_after (Some d) (due_at x) ≡ is_after last (due_at x))
told_apart last es d order next x at =
    elim (cases_Bool (is_after last (due_at x)))
    as (λ _. (x ≡ next.entry) ⊎ (is_after (Some d) (due_at x) ≡ is_after last (due_at x))) [
      | inl after ↦ elim (next.first x at after)
          as (λ _. (x ≡ next.entry) ⊎ (is_after (Some d) (due_at x) ≡ is_after last (due_at x))) [
            | inl is ↦ inl (one_ticket es x next.entry order at next.held
                (ap (λ (z : Due). z.ticket) (sym is ∙ sym next.at)))
            | inr before ↦ inr (before ∙ sym after)
          ]
      | inr not_after ↦ inr (stays_read last d (due_at x) next.after not_after ∙ sym not_after)
    ]

passed : (last : Option Due) (es : List PlainEntry) (d : Due) (next : IsNextEntry last es d) →
    is_after last (due_at next.entry) ≡ true
passed last es d next = ap (is_after last) next.at ∙ next.after

reached : (last : Option Due) (es : List PlainEntry) (d : Due) (next : IsNextEntry last es d) →
    is_after (Some d) (due_at next.entry) ≡ false
reached last es d next = ap (is_before d) next.at ∙ not_itself d

and_false : (b c : Bool) → c ≡ true → (b && not c) ≡ false
and_false true c is = rw is refl
and_false false c is = refl

and_true : (b c : Bool) → c ≡ false → (b && not c) ≡ b
and_true true c is = rw is refl
and_true false c is = refl

pub none_read : (p : PlainEntry → Bool) (es : List PlainEntry) → counted_read p None es ≡ 0
none_read p [] = refl
none_read p (e ∷ es) =
    let none = ap one_if (and_false (p e) true refl) in
    omega (arith, counted_first (λ x. p x && is_read None x) e es, none, none_read p es)

pub more_read : (p : PlainEntry → Bool) (last : Option Due) (es : List PlainEntry) (d : Due)
    → IsInOrder es → IsNextEntry last es d
    → counted_read p (Some d) es ≡ counted_read p last es + one_if (option_map_or p (find_ticket d.ticket es) false)
more_read p last es d order next =
    let e = next.entry in
    let each : (x : PlainEntry) → IsIn x es
    → (x ≡ e) ⊎ ((p x && is_read (Some d) x) ≡ (p x && is_read last x)) = λ x at.
    elim (told_apart last es d order next x at)
    as (λ _. (x ≡ e) ⊎ ((p x && is_read (Some d) x) ≡ (p x && is_read last x))) [
      | inl is ↦ inl is
      | inr same ↦ inr (ap (λ (b : Bool). p x && not b) same)
    ] in
    let all = one_apart (λ x. p x && is_read last x) (λ x. p x && is_read (Some d) x) es e order next.held
    (and_false (p e) (is_after last (due_at e)) (passed last es d next)) each in
    let own : (p e && is_read (Some d) e) ≡ p e =
    and_true (p e) (is_after (Some d) (due_at e)) (reached last es d next) in
    let ticket : e.ticket ≡ d.ticket = ap (λ (z : Due). z.ticket) next.at in
    let found : find_ticket d.ticket es ≡ Some e =
    ap (λ (t : ℕ). find_ticket t es) (sym ticket) ∙ found_there es e order next.held in
    let here : option_map_or p (find_ticket d.ticket es) false ≡ p e =
    ap (λ (o : Option PlainEntry). option_map_or p o false) found in
    all ∙ ap (λ (b : Bool). counted_read p last es + one_if b) (own ∙ sym here)

pub room_read : (p : PlainEntry → Bool) (last : Option Due) (es : List PlainEntry) (d : Due)
    → IsNextEntry last es d → counted_read p last es + 1 ≤ length es
room_read p last es d next =
    spare (λ x. p x && is_read last x) es next.entry next.held
    (and_false (p next.entry) (is_after last (due_at next.entry)) (passed last es d next))

pub all_read : (p : PlainEntry → Bool) (last : Option Due) (es : List PlainEntry)
    → ((x : PlainEntry) → IsIn x es → is_after last (due_at x) ≡ false)
    → counted_read p last es ≡ counted p es
all_read p last es none =
    same_counts p (λ x. p x && is_read last x) es
    (λ x at. and_true (p x) (is_after last (due_at x)) (none x at))

-- fewer are left
pub fewer_left : (last : Option Due) (es : List PlainEntry) (d : Due) → IsInOrder es → IsNextEntry last es d →
    counted (λ e. is_after (Some d) (due_at e)) es < counted (λ e. is_after last (due_at e)) es
fewer_left last es d order next =
    let e = next.entry in
    let each : (x : PlainEntry) → IsIn x es
    → (x ≡ e) ⊎ (is_after last (due_at x) ≡ is_after (Some d) (due_at x)) = λ x at.
    elim (told_apart last es d order next x at)
    as (λ _. (x ≡ e) ⊎ (is_after last (due_at x) ≡ is_after (Some d) (due_at x))) [
      | inl is ↦ inl is
      | inr same ↦ inr (sym same)
    ] in
    let all = one_apart (λ x. is_after (Some d) (due_at x)) (λ x. is_after last (due_at x)) es e order next.held
    (reached last es d next) each in
    let one = ap one_if (passed last es d next) in
    omega (arith, all, one)
