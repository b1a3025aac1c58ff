-- A walk over a realm's entries in order of deadline and ticket, at which each goes or stays changed.
use Rattle.std.proofs.Common.{◌≡◌, ◌≢◌, ℕ, ◌<◌, ◌≤◌, Bool, true, false, List, [], ◌∷◌, Option, Some, None, is_some, length, refl, ap, sym, ◌∙◌, arith, inl, inr, if◌then◌else◌}
use Rattle.std.specs.Prelude.{option_and_then}
use Rattle.std.specs.List.{filter, filter_map}
use Rattle.std.proofs.lemmas.Bool.{cases_Bool, cases_eq}
use Rattle.std.proofs.lemmas.Bool.Decides.{nat_tests}
use Rattle.std.proofs.lemmas.Option.{same_Some}
use Rattle.roam_pending.specs.declared.due.Due.{Due}
use Rattle.roam_pending.specs.DueOrder.{due_at, is_after, is_before}
use Rattle.roam_pending.specs.EntryList.{IsInOrder, find_ticket, put}
use Rattle.roam_pending.specs.ListLaws.{IsIn, IsNextEntry}
use Rattle.roam_pending.specs.PlainEntry.{PlainEntry}
use Rattle.roam_pending.proofs.ChangeLemmas.{find-put, find-put_other, find-without, find-without_other, found-ticket}
use Rattle.roam_migrate.specs.Private.Moving.{kept_or_gone, set_or_gone}
use Rattle.roam_migrate.proofs.ByTicketLemmas.{found_in, found_kept, in_found, order_kept, same_by_ticket}

-- ---- the order

not_itself : (d : Due) → is_before d d ≡ false
not_itself d = grind (arith, nat_tests)

after_later : (last : Option Due) (d x : Due) → is_after last d ≡ true → is_before d x ≡ true
    → is_after last x ≡ true
after_later None d x h k = refl
after_later (Some l) d x h k = grind (arith, nat_tests, h, k)

-- what doesn't come after the last one doesn't come after a later one
not_after_later : (last : Option Due) (d x : Due) → is_after last d ≡ true → is_after last x ≡ false
    → is_before d x ≡ false
not_after_later last d x h k =
    elim (cases_Bool (is_before d x)) as (λ _. is_before d x ≡ false) [
      | inl y ↦ absurd (let no : true ≡ false = sym (after_later last d x h y) ∙ k in cc)
      | inr n ↦ n
    ]

-- ---- how far it came

module _ (f : PlainEntry → Option PlainEntry)
    (due : (x y : PlainEntry) → f x ≡ Some y → due_at y ≡ due_at x) where
  own : (x y : PlainEntry) → f x ≡ Some y → y.ticket ≡ x.ticket
  own x y is = ap (λ (d : Due). d.ticket) (due x y is)

  -- what is there of an entry, changed where it was seen
  abbrev pub part : Option Due → PlainEntry → Option PlainEntry
  part last x = if is_after last (due_at x) then Some x else f x

  -- an entry as it was, if it stays
  abbrev pub as_was : PlainEntry → Option PlainEntry
  as_was x = if is_some (f x) then Some x else None

  -- the same as far as it was seen
  abbrev pub kept : Option Due → PlainEntry → Option PlainEntry
  kept last x = if is_after last (due_at x) then Some x else as_was x

  -- of some entries these are there, changed up to the last one; and those that stay as they were
  pub record IsWalk (es are stay : List PlainEntry) (last : Option Due) : Type 0 where
    pub cur : (t : ℕ) → find_ticket t are ≡ option_and_then (part last) (find_ticket t es)
    pub mid : (t : ℕ) → find_ticket t stay ≡ option_and_then (kept last) (find_ticket t es)

  all_there : (o : Option PlainEntry) → o ≡ option_and_then (part None) o
  all_there None = refl
  all_there (Some x) = refl

  all_kept : (o : Option PlainEntry) → o ≡ option_and_then (kept None) o
  all_kept None = refl
  all_kept (Some x) = refl

  pub walk_begins : (es : List PlainEntry) → IsWalk es es es None
  walk_begins es = record {
    cur = λ t. all_there (find_ticket t es);
    mid = λ t. all_kept (find_ticket t es);
  }

  -- ---- one entry more

  part_after : (last : Option Due) (x : PlainEntry) → is_after last (due_at x) ≡ true → part last x ≡ Some x
  part_after last x h = rw h refl

  part_before : (last : Option Due) (x : PlainEntry) → is_after last (due_at x) ≡ false → part last x ≡ f x
  part_before last x h = rw h refl

  kept_after : (last : Option Due) (x : PlainEntry) → is_after last (due_at x) ≡ true → kept last x ≡ Some x
  kept_after last x h = rw h refl

  kept_before : (last : Option Due) (x : PlainEntry) → is_after last (due_at x) ≡ false → kept last x ≡ as_was x
  kept_before last x h = rw h refl

  module _ (es cur mid : List PlainEntry) (last : Option Due) (d : Due) (order : IsInOrder cur)
      (walk : IsWalk es cur mid last) (next : IsNextEntry last cur d) where
    at_ticket : next.entry.ticket ≡ d.ticket
    at_ticket = ap (λ (x : Due). x.ticket) next.at

    is_after_last : is_after last (due_at next.entry) ≡ true
    is_after_last = ap (is_after last) next.at ∙ next.after

    -- it is found
    pub next_found : find_ticket d.ticket cur ≡ Some next.entry
    next_found =
        ap (λ (t : ℕ). find_ticket t cur) (sym at_ticket) ∙ in_found cur next.entry order next.held

    -- and was there from the first
    was_by : (o : Option PlainEntry) → option_and_then (part last) o ≡ Some next.entry → o ≡ Some next.entry
    was_by None h = absurd (cc h)
    was_by (Some x) h =
        elim (cases_Bool (is_after last (due_at x))) as (λ _. Some x ≡ Some next.entry) [
          | inl y ↦ sym (part_after last x y) ∙ h
          | inr n ↦ absurd (
              let same : due_at next.entry ≡ due_at x = due x next.entry (sym (part_before last x n) ∙ h) in
              let no : true ≡ false = sym is_after_last ∙ ap (is_after last) same ∙ n in
              cc)
        ]

    pub next_was : find_ticket d.ticket es ≡ Some next.entry
    next_was = was_by (find_ticket d.ticket es) (sym (walk.cur d.ticket) ∙ next_found)

    pub next_kept : find_ticket d.ticket mid ≡ Some next.entry
    next_kept =
        walk.mid d.ticket ∙ ap (option_and_then (kept last)) next_was ∙ kept_after last next.entry is_after_last

    seen_now : is_after (Some d) (due_at next.entry) ≡ false
    seen_now = ap (is_before d) next.at ∙ not_itself d

    here_cur : option_and_then (part (Some d)) (find_ticket d.ticket es) ≡ f next.entry
    here_cur = ap (option_and_then (part (Some d))) next_was ∙ part_before (Some d) next.entry seen_now

    here_mid : option_and_then (kept (Some d)) (find_ticket d.ticket es) ≡ as_was next.entry
    here_mid = ap (option_and_then (kept (Some d))) next_was ∙ kept_before (Some d) next.entry seen_now

    -- each other one was seen just where it was seen before
    seen_same : (t : ℕ) (x : PlainEntry) → t ≢ d.ticket → find_ticket t es ≡ Some x
        → is_after (Some d) (due_at x) ≡ is_after last (due_at x)
    seen_same t x ne at =
        elim (cases_Bool (is_after last (due_at x)))
        as (λ _. is_after (Some d) (due_at x) ≡ is_after last (due_at x)) [
          | inl y ↦ (
              let there : find_ticket t cur ≡ Some x =
              walk.cur t ∙ ap (option_and_then (part last)) at ∙ part_after last x y in
              elim (next.first x (found_in t cur x there) y)
              as (λ _. is_after (Some d) (due_at x) ≡ is_after last (due_at x)) [
                | inl is ↦ absurd (ne (
                    sym (found-ticket t es x at) ∙ sym (ap (λ (z : Due). z.ticket) is)))
                | inr before ↦ before ∙ sym y
              ])
          | inr n ↦ not_after_later last d (due_at x) next.after n ∙ sym n
        ]

    others_cur : (t : ℕ) → t ≢ d.ticket → (o : Option PlainEntry) → find_ticket t es ≡ o
        → option_and_then (part last) o ≡ option_and_then (part (Some d)) o
    others_cur t ne None at = refl
    others_cur t ne (Some x) at =
        sym (ap (λ (b : Bool). if b then Some x else f x) (seen_same t x ne at))

    others_mid : (t : ℕ) → t ≢ d.ticket → (o : Option PlainEntry) → find_ticket t es ≡ o
        → option_and_then (kept last) o ≡ option_and_then (kept (Some d)) o
    others_mid t ne None at = refl
    others_mid t ne (Some x) at =
        sym (ap (λ (b : Bool). if b then Some x else as_was x) (seen_same t x ne at))

    -- it goes or stays changed
    found_set : (t : ℕ) (o : Option PlainEntry) → f next.entry ≡ o → t ≢ d.ticket
        → find_ticket t (set_or_gone d.ticket o cur) ≡ find_ticket t cur
    found_set t None is ne = find-without_other t d.ticket cur ne
    found_set t (Some e) is ne =
        find-put_other t e cur order (λ k. ne (k ∙ own next.entry e is ∙ at_ticket))

    set_here : (o : Option PlainEntry) → f next.entry ≡ o
        → find_ticket d.ticket (set_or_gone d.ticket o cur) ≡ o
    set_here None is = find-without d.ticket cur
    set_here (Some e) is =
        ap (λ (t : ℕ). find_ticket t (put e cur)) (sym at_ticket ∙ sym (own next.entry e is)) ∙ find-put e cur

    left_here : (o : Option PlainEntry) → f next.entry ≡ o
        → find_ticket d.ticket (kept_or_gone d.ticket o mid) ≡ (if is_some o then Some next.entry else None)
    left_here None is = find-without d.ticket mid
    left_here (Some e) is = next_kept

    found_left : (t : ℕ) (o : Option PlainEntry) → t ≢ d.ticket
        → find_ticket t (kept_or_gone d.ticket o mid) ≡ find_ticket t mid
    found_left t None ne = find-without_other t d.ticket mid ne
    found_left t (Some e) ne = refl

    abbrev given : Option PlainEntry
    given = option_and_then f (find_ticket d.ticket cur)

    given_is : f next.entry ≡ given
    given_is = sym (ap (option_and_then f) next_found)

    pub walk_goes_on : IsWalk es (set_or_gone d.ticket given cur) (kept_or_gone d.ticket given mid) (Some d)
    walk_goes_on = record {
      cur = λ t. elim (cases_eq t d.ticket)
          as (λ _. find_ticket t (set_or_gone d.ticket given cur)
          ≡ option_and_then (part (Some d)) (find_ticket t es)) [
            | inl is ↦ rw is (set_here given given_is ∙ sym given_is ∙ sym here_cur)
            | inr ne ↦ (
                found_set t given given_is ne ∙ walk.cur t
                ∙ others_cur t ne (find_ticket t es) refl)
          ];
      mid = λ t. elim (cases_eq t d.ticket)
          as (λ _. find_ticket t (kept_or_gone d.ticket given mid)
          ≡ option_and_then (kept (Some d)) (find_ticket t es)) [
            | inl is ↦ rw is (
                left_here given given_is
                ∙ ap (λ (o : Option PlainEntry). if is_some o then Some next.entry else None) (sym given_is)
                ∙ sym here_mid)
            | inr ne ↦ (
                found_left t given ne ∙ walk.mid t ∙ others_mid t ne (find_ticket t es) refl)
          ];
    }

  -- ---- its end

  module _ (es cur mid : List PlainEntry) (last : Option Due) (walk : IsWalk es cur mid last)
      (none : (x : PlainEntry) → IsIn x cur → is_after last (due_at x) ≡ false) where
    all_seen : (t : ℕ) (x : PlainEntry) → find_ticket t es ≡ Some x → is_after last (due_at x) ≡ false
    all_seen t x at =
        elim (cases_Bool (is_after last (due_at x))) as (λ _. is_after last (due_at x) ≡ false) [
          | inl y ↦ none x (found_in t cur x
              (walk.cur t ∙ ap (option_and_then (part last)) at ∙ part_after last x y))
          | inr n ↦ n
        ]

    end_cur : (t : ℕ) (o : Option PlainEntry) → find_ticket t es ≡ o
        → option_and_then (part last) o ≡ option_and_then f o
    end_cur t None at = refl
    end_cur t (Some x) at = part_before last x (all_seen t x at)

    end_mid : (t : ℕ) (o : Option PlainEntry) → find_ticket t es ≡ o
        → option_and_then (kept last) o ≡ option_and_then as_was o
    end_mid t None at = refl
    end_mid t (Some x) at = kept_before last x (all_seen t x at)

    pub walk_ends : IsInOrder es → IsInOrder cur → cur ≡ filter_map f es
    walk_ends was order =
        same_by_ticket cur (filter_map f es) order (order_kept f own es was)
        (λ t. walk.cur t ∙ end_cur t (find_ticket t es) refl ∙ sym (found_kept f own t es was))

    was_own : (x y : PlainEntry) → as_was x ≡ Some y → y.ticket ≡ x.ticket
    was_own x y is =
        elim (cases_Bool (is_some (f x))) as (λ _. y.ticket ≡ x.ticket) [
          | inl there ↦ (
              let k : Some x ≡ Some y = rw there at is in sym (ap (λ (e : PlainEntry). e.ticket) (same_Some x y k)))
          | inr gone ↦ absurd (let k : None ≡ Some y = rw gone at is in cc)
        ]

    pub kept_ends : IsInOrder es → (t : ℕ) → find_ticket t mid ≡ find_ticket t (filter_map as_was es)
    kept_ends was t =
        walk.mid t ∙ end_mid t (find_ticket t es) refl ∙ sym (found_kept as_was was_own t es was)

-- ---- it ends

fewer_pass : (p q : PlainEntry → Bool) (es : List PlainEntry) → ((x : PlainEntry) → p x ≡ true → q x ≡ true)
    → length (filter p es) ≤ length (filter q es)
fewer_pass p q [] h = omega arith
fewer_pass p q (x ∷ xs) h =
    let rest = fewer_pass p q xs h in
    elim (cases_Bool (p x)) [
      | inl y ↦ rw (y, h x y) (omega (arith, rest))
      | inr n ↦ elim (cases_Bool (q x)) [
        | inl y ↦ rw (n, y) (omega (arith, rest))
        | inr m ↦ rw (n, m) rest
      ]
    ]

fewer_by_one : (p q : PlainEntry → Bool) (es : List PlainEntry) (e : PlainEntry) → IsIn e es
    → ((x : PlainEntry) → p x ≡ true → q x ≡ true) → p e ≡ false → q e ≡ true
    → length (filter p es) < length (filter q es)
fewer_by_one p q [] e held h away passes = absurd held
fewer_by_one p q (x ∷ xs) e held h away passes =
    elim held as (λ _. length (filter p (x ∷ xs)) < length (filter q (x ∷ xs))) [
      | inl is ↦ (
          let not_here : p x ≡ false = ap p is ∙ away in
          let here : q x ≡ true = ap q is ∙ passes in
          let rest = fewer_pass p q xs h in
          rw (not_here, here) (omega (arith, rest)))
      | inr later ↦ (
          let rest = fewer_by_one p q xs e later h away passes in
          elim (cases_Bool (p x)) as (λ _. length (filter p (x ∷ xs)) < length (filter q (x ∷ xs))) [
            | inl y ↦ rw (y, h x y) (omega (arith, rest))
            | inr n ↦ elim (cases_Bool (q x)) as (λ _. length (filter p (x ∷ xs)) < length (filter q (x ∷ xs))) [
              | inl y ↦ rw (n, y) (omega (arith, rest))
              | inr m ↦ rw (n, m) rest
            ]
          ])
    ]

-- fewer entries come after a later one
pub fewer_after : (es : List PlainEntry) (last : Option Due) (d : Due) (e : PlainEntry) → IsIn e es → due_at e ≡ d
    → is_after last d ≡ true
    → length (filter (λ x. is_after (Some d) (due_at x)) es) < length (filter (λ x. is_after last (due_at x)) es)
fewer_after es last d e held at after =
    fewer_by_one (λ x. is_after (Some d) (due_at x)) (λ x. is_after last (due_at x)) es e held
    (λ x later. after_later last d (due_at x) after later) (ap (is_before d) at ∙ not_itself d)
    (ap (is_after last) at ∙ after)
