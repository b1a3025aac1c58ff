-- Sums over the entries of a realm, how many pass a test, and what holds of the link of a target.
use Rattle.std.proofs.Common.{◌≡◌, ℕ, ◌+◌, ◌-◌, ◌*◌, ◌≤◌, Bool, List, [], ◌∷◌, ◌++◌, Option, Some, None, ap, subst, ◌∙◌, inl, inr, arith, length, length-append, eqb, is_some}
use Rattle.std.specs.Prelude.{◌⊎◌, not}
use Rattle.std.specs.List.{AllByRecursion, filter, find}
use Rattle.std.specs.Option.{option_or}
use Rattle.std.proofs.Math.Nat.{mul-le-mul_left}
use Rattle.std.proofs.lemmas.Bool.{cases_Bool}
use Rattle.std.proofs.lemmas.List.Elements.{filter-append}
use Rattle.roam_conf.specs.declared.place.Link.{Link}
use Rattle.roam_admission.specs.Admission.{PlainOut}
use Rattle.roam_pending.specs.ListLaws.{IsIn}
use Rattle.roam_pending.specs.PlainEntry.{PlainEntry, PlainRequest, same_link}
use Rattle.roam_pending.specs.EntryList.{above, below, put, without}
use Rattle.roam_pending.proofs.TestLemmas.{all-append, all-filter, compared, less, not_less, same}
use Rattle.roam_realm.specs.RealmConfig.{RealmConfig}
use Rattle.roam_realm.specs.RealmState.{Target, chosen_target, first_target, next_toward, ready_links, this_or, RealmState}
use Rattle.roam_realm.specs.Rests.{stands_back, has_moment}
use Rattle.roam_realm.specs.declared.rest.Rest.{Rest}
use Rattle.roam_realm.specs.Conversing.{asked_state, bound_link, bound_links, bound_target, new_target, same_end, untried}
use Rattle.roam_core.proofs.SentLemmas.{either}
use Rattle.roam_core.specs.Amplification.{Ends, counted, sum_over}

-- How many pass a test

pub counts : {X : Type 0} (p : X → Bool) (x : X) (xs : List X) →
    length (filter p (x ∷ xs)) ≡ length (filter p (x ∷ [])) + length (filter p xs)
counts p x xs =
    elim (cases_Bool (p x)) [
      | inl y ↦ rw y (omega arith)
      | inr n ↦ rw n (omega arith)
    ]

pub counted-append : (ends : Ends) (xs ys : List PlainOut) → counted ends (xs ++ ys) ≡ counted ends xs + counted ends ys
counted-append ends xs ys =
    ap (λ (l : List PlainOut). length l) (filter-append (λ out. ends out.from out.to) xs ys)
    ∙ length-append (filter (λ out. ends out.from out.to) xs) (filter (λ out. ends out.from out.to) ys)

-- Sums over entries

pub sum-append : (f : PlainEntry → ℕ) (xs ys : List PlainEntry) → sum_over f (xs ++ ys) ≡ sum_over f xs + sum_over f ys
sum-append f [] ys = omega arith
sum-append f (x ∷ xs) ys = omega (arith, sum-append f xs ys)

pub sum-filter : (f : PlainEntry → ℕ) (p : PlainEntry → Bool) (xs : List PlainEntry) →
    sum_over f (filter p xs) ≤ sum_over f xs
sum-filter f p [] = omega arith
sum-filter f p (x ∷ xs) =
    elim (cases_Bool (p x)) [
      | inl y ↦ rw y (omega (arith, sum-filter f p xs))
      | inr n ↦ rw n (omega (arith, sum-filter f p xs))
    ]

-- the entries of lesser ticket, and those of greater
sum-sides : (f : PlainEntry → ℕ) (t : ℕ) (xs : List PlainEntry) →
    sum_over f (below t xs) + sum_over f (above t xs) ≤ sum_over f xs
sum-sides f t [] = omega arith
sum-sides f t (x ∷ xs) =
    let rest = sum-sides f t xs in
    elim (compared x.ticket t) [
      | inl lt ↦ rw (less x.ticket t lt, not_less t x.ticket (omega arith)) (omega (arith, rest))
      | inr (inl at) ↦ rw (not_less x.ticket t (omega arith), not_less t x.ticket (omega arith)) (omega (arith, rest))
      | inr (inr gt) ↦ rw (not_less x.ticket t (omega arith), less t x.ticket gt) (omega (arith, rest))
    ]

-- and without one of that ticket
sum-beside : (f : PlainEntry → ℕ) (t : ℕ) (old : PlainEntry) (xs : List PlainEntry) → old.ticket ≡ t → IsIn old xs →
    sum_over f (below t xs) + sum_over f (above t xs) + f old ≤ sum_over f xs
sum-beside f t old [] is at = absurd at
sum-beside f t old (x ∷ xs) is (inl here) =
    let rest = sum-sides f t xs in
    let ticket : x.ticket ≡ t = ap (λ (e : PlainEntry). e.ticket) here ∙ is in
    let weight = ap f here in
    rw (not_less x.ticket t (omega arith), not_less t x.ticket (omega arith)) (omega (arith, rest, weight))
sum-beside f t old (x ∷ xs) is (inr at) =
    let rest = sum-beside f t old xs is at in
    elim (compared x.ticket t) [
      | inl lt ↦ rw (less x.ticket t lt, not_less t x.ticket (omega arith)) (omega (arith, rest))
      | inr (inl eq) ↦ rw (not_less x.ticket t (omega arith), not_less t x.ticket (omega arith)) (omega (arith, rest))
      | inr (inr gt) ↦ rw (not_less x.ticket t (omega arith), less t x.ticket gt) (omega (arith, rest))
    ]

-- an entry that is put adds its own at most
pub sum-put : (f : PlainEntry → ℕ) (e : PlainEntry) (xs : List PlainEntry) → sum_over f (put e xs) ≤ f e + sum_over f xs
sum-put f e xs =
    let whole = sum-append f (below e.ticket xs) (e ∷ above e.ticket xs) in
    omega (arith, whole, sum-sides f e.ticket xs)

-- and takes away that of the one which it replaces
pub sum-replaced : (f : PlainEntry → ℕ) (e old : PlainEntry) (xs : List PlainEntry) → old.ticket ≡ e.ticket →
    IsIn old xs → sum_over f (put e xs) + f old ≤ f e + sum_over f xs
sum-replaced f e old xs is at =
    let whole = sum-append f (below e.ticket xs) (e ∷ above e.ticket xs) in
    omega (arith, whole, sum-beside f e.ticket old xs is at)

-- an entry that is taken out takes its own away
pub sum-without : (f : PlainEntry → ℕ) (old : PlainEntry) (xs : List PlainEntry) → IsIn old xs →
    sum_over f (without old.ticket xs) + f old ≤ sum_over f xs
sum-without f old [] at = absurd at
sum-without f old (x ∷ xs) (inl here) =
    let ticket : x.ticket ≡ old.ticket = ap (λ (e : PlainEntry). e.ticket) here in
    let weight = ap f here in
    let rest = sum-filter f (λ e. not (eqb e.ticket old.ticket)) xs in
    rw (same x.ticket old.ticket ticket) (omega (arith, rest, weight))
sum-without f old (x ∷ xs) (inr at) =
    let rest = sum-without f old xs at in
    elim (cases_Bool (eqb x.ticket old.ticket)) [
      | inl y ↦ rw y (omega (arith, rest))
      | inr n ↦ rw n (omega (arith, rest))
    ]

-- what is found is in the list
pub found-in : {X : Type 0} (p : X → Bool) (xs : List X) (y : X) → find p xs ≡ Some y → IsIn y xs
found-in p [] y at = absurd (let k : None ≡ Some y = at in cc)
found-in p (x ∷ xs) y at =
    elim (cases_Bool (p x)) [
      | inl t ↦ let k : Some x ≡ Some y = rw t at at in inl (cc)
      | inr n ↦ inr (found-in p xs y (rw n at at))
    ]

-- The link of a target

-- what holds of each link holds of the chosen one
this-holds : (Q : Link → Type 0) (l : Link) (others : Option Target) (target : Target) (id : Option ℕ) → Q l →
    (others ≡ Some target → Q target.link) → this_or l id others ≡ Some target → Q target.link
this-holds Q l others target None here h at = h at
this-holds Q l others target (Some id) here h at =
    let k : Some (record { link = l; id = id }) ≡ Some target = at in
    let whole : record { link = l; id = id } ≡ target = cc in
    subst Q (ap (λ (t : Target). t.link) whole) here

first-holds : (Q : Link → Type 0) (c : RealmConfig) (cursors : List ℕ) (es : List PlainEntry) (links : List Link)
    (target : Target) → AllByRecursion Q links → first_target c cursors es links ≡ Some target → Q target.link
first-holds Q c cursors es [] target h at = absurd (let k : None ≡ Some target = at in cc)
first-holds Q c cursors es (l ∷ ls) target h at =
    this-holds Q l (first_target c cursors es ls) target (next_toward c cursors es l) h.0
    (λ k. first-holds Q c cursors es ls target h.1 k) at

either-is : (one other : Option Target) (target : Target) → option_or one other ≡ Some target → (one ≡ Some target)
    ⊎ (other ≡ Some target)
either-is None other target at = inr at
either-is (Some t) other target at = inl at

pub chosen-holds : (Q : Link → Type 0) (c : RealmConfig) (now : ℕ) (rests : List Rest) (cursors : List ℕ)
    (es : List PlainEntry) (links : List Link) (target : Target) → AllByRecursion Q links →
    chosen_target c now rests cursors es links ≡ Some target → Q target.link
chosen-holds Q c now rests cursors es links target h at =
    let ready = ready_links c now rests links in
    elim (either-is (first_target c cursors es ready) (first_target c cursors es links) target at) [
      | inl k ↦ first-holds Q c cursors es ready target (all-filter Q (λ l. not (stands_back c now rests l)) links h) k
      | inr k ↦ first-holds Q c cursors es links target h k
    ]

bound-all : (Q : Link → Type 0) (bound : Option Link) (links : List Link) → AllByRecursion Q links →
    AllByRecursion Q (bound_links bound links)
bound-all Q None links h = tt
bound-all Q (Some k) links h =
    all-append Q (filter (same_link k) links) (filter (same_end k) links) (all-filter Q (same_link k) links h)
    (all-filter Q (same_end k) links h)

untried-all : (Q : Link → Type 0) (c : RealmConfig) (rests : List Rest) (q : PlainRequest) (links : List Link) →
    AllByRecursion Q links → AllByRecursion Q (untried c rests q links)
untried-all Q c rests q links h =
    either (AllByRecursion Q) (is_some (asked_state c q)) _ _
    (all-filter Q (λ l. not (has_moment c rests l)) links h) tt

-- and of the one for a new request
pub new-holds : (Q : Link → Type 0) (c : RealmConfig) (now : ℕ) (s : RealmState) (es : List PlainEntry)
    (q : PlainRequest) (links : List Link) (target : Target) → AllByRecursion Q links →
    new_target c now s es q links ≡ Some target → Q target.link
new-holds Q c now s es q links target h at =
    let bound = bound_target c s es q links in
    let free = first_target c s.cursors es (untried c s.rests q links) in
    let chosen = chosen_target c now s.rests s.cursors es links in
    elim (either-is bound (option_or free chosen) target at) [
      | inl k ↦
          first-holds Q c s.cursors es (bound_links (bound_link c q s.entries) links) target
          (bound-all Q (bound_link c q s.entries) links h) k
      | inr k ↦
          elim (either-is free chosen target k) [
            | inl u ↦
                first-holds Q c s.cursors es (untried c s.rests q links) target (untried-all Q c s.rests q links h) u
            | inr d ↦ chosen-holds Q c now s.rests s.cursors es links target h d
          ]
    ]

-- Products

-- `tries` to each of a link and its later ones are at most `tries` to each of all
pub times : (t a b n : ℕ) → a + b ≤ n → t * a + t * b ≤ t * n
times t a b n h =
    let all = mul-le-mul_left t h in
    omega (arith, all)

one-more : (k x : ℕ) → x + k * x ≤ (k + 1) * x
one-more k x = omega arith

-- one send is used up
pub resent : (k x : ℕ) → 1 ≤ k → x + (k - 1) * x ≤ k * x
resent k x h =
    let is : (k - 1) + 1 ≡ k = omega arith in
    subst (λ (n : ℕ). x + (k - 1) * x ≤ n * x) is (one-more (k - 1) x)
