-- What is found by a key, on a link, or done.
use Rattle.std.proofs.Common.{◌≡◌, ℕ, ◌<◌, Bool, true, false, List, [], ◌∷◌, Option, Some, None, refl, ap, sym, ◌∙◌, subst, arith, cond, eqb, inl, inr, is_some}
use Rattle.std.specs.Prelude.{◌&&◌, ◌||◌, ◌==◌, option_map}
use Rattle.std.specs.List.{cons_option, find, list_any}
use Rattle.std.proofs.lemmas.Bool.{cases_Bool}
use Rattle.std.proofs.lemmas.Bool.Decides.{nat_tests}
use Rattle.roam_conf.specs.declared.place.Link.{Link}
use Rattle.roam_conf.specs.declared.place.Place.{Place}
use Rattle.roam_conf.specs.declared.place.Place.TheVariants as place
use Rattle.roam_pending.specs.declared.key.Key.{Key}
use Rattle.roam_pending.specs.PlainEntry.{PlainEntry, PlainStanding, waiting, done, has_key, same_key, same_link, same_place, stands_at, is_done}
use Rattle.roam_conf.proofs.EqualPartsLemmas.{endpoint_decides}
use Rattle.roam_conf.specs.Duplicates.{same_endpoint}
use Rattle.roam_pending.specs.EntryList.{IsInOrder, HasDistinctKeys, find_client, find_link, find_ticket, first_done, identifier_on, identifiers_on, without, without_client}
use Rattle.roam_pending.proofs.TestLemmas.{same, differs, key_is_same, pair_decides, all-find}
use Rattle.roam_pending.proofs.OrderLemmas.{IsOfOthers, find-above, without-absent}
use Rattle.roam_pending.proofs.ChangeLemmas.{find-passes, found-is}

-- keys that are the same are equal
and_left : (a b : Bool) → (a && b) ≡ true → a ≡ true
and_left true b h = refl
and_left false b h = h

and_right : (a b : Bool) → (a && b) ≡ true → b ≡ true
and_right true b h = h
and_right false b h = absurd (let k : false ≡ true = h in cc)

place_equal : (a b : Place) → same_place a b ≡ true → a ≡ b
place_equal (place.Auth nth) (place.Auth nth') h =
    let is : nth ≡ nth' = grind (arith, nat_tests, h) in ap place.Auth is
place_equal (place.Auth nth) (place.Acct nth') h = absurd (let k : false ≡ true = h in cc)
place_equal (place.Auth nth) (place.Out b nth') h = absurd (let k : false ≡ true = h in cc)
place_equal (place.Auth nth) (place.Reverse b nth') h = absurd (let k : false ≡ true = h in cc)
place_equal (place.Acct nth) (place.Auth nth') h = absurd (let k : false ≡ true = h in cc)
place_equal (place.Acct nth) (place.Acct nth') h =
    let is : nth ≡ nth' = grind (arith, nat_tests, h) in ap place.Acct is
place_equal (place.Acct nth) (place.Out b nth') h = absurd (let k : false ≡ true = h in cc)
place_equal (place.Acct nth) (place.Reverse b nth') h = absurd (let k : false ≡ true = h in cc)
place_equal (place.Out a nth) (place.Auth nth') h = absurd (let k : false ≡ true = h in cc)
place_equal (place.Out a nth) (place.Acct nth') h = absurd (let k : false ≡ true = h in cc)
place_equal (place.Out a nth) (place.Out b nth') h =
    let both = (pair_decides a b nth nth').0 h in let number = both.0 in let at = both.1 in
    λ i. place.Out (number i) (at i)
place_equal (place.Out a nth) (place.Reverse b nth') h = absurd (let k : false ≡ true = h in cc)
place_equal (place.Reverse a nth) (place.Auth nth') h = absurd (let k : false ≡ true = h in cc)
place_equal (place.Reverse a nth) (place.Acct nth') h = absurd (let k : false ≡ true = h in cc)
place_equal (place.Reverse a nth) (place.Out b nth') h = absurd (let k : false ≡ true = h in cc)
place_equal (place.Reverse a nth) (place.Reverse b nth') h =
    let both = (pair_decides a b nth nth').0 h in let number = both.0 in let at = both.1 in
    λ i. place.Reverse (number i) (at i)

pub key-equal : (a b : Key) → same_key a b ≡ true → a ≡ b
key-equal a b h =
    let front = and_left (same_place a.place b.place && same_endpoint a.from b.from) (eqb a.id b.id) h in
    let socket = place_equal a.place b.place
    (and_left (same_place a.place b.place) (same_endpoint a.from b.from) front) in
    let from = (endpoint_decides a.from b.from).0
    (and_right (same_place a.place b.place) (same_endpoint a.from b.from) front) in
    let id : a.id ≡ b.id = let t = and_right (same_place a.place b.place && same_endpoint a.from b.from)
    (eqb a.id b.id) h in grind (arith, nat_tests, t) in
    λ i. record { place = socket i; from = from i; id = id i }

pub key-same : (a b : Key) → a ≡ b → same_key a b ≡ true
key-same a b is = subst (λ (k : Key). same_key a k ≡ true) is (key_is_same a)

-- a list without a key finds none of it
pub client-without : (k : Key) (es : List PlainEntry) → find_client k (without_client k es) ≡ None
client-without k [] = refl
client-without k (e ∷ es) =
    elim (cases_Bool (same_key e.request.key k)) [
      | inl y ↦ rw y (client-without k es)
      | inr n ↦ rw (n, n) (client-without k es)
    ]

-- and is the whole list where there is none
pub without_client-absent :
    (k : Key) (es : List PlainEntry) → find_client k es ≡ None → without_client k es ≡ es
without_client-absent k [] h = refl
without_client-absent k (e ∷ es) h =
    elim (cases_Bool (same_key e.request.key k)) [
      | inl y ↦ absurd (let some : Some e ≡ None = rw y at h in cc)
      | inr n ↦ rw n (ap (λ (l : List PlainEntry). e ∷ l) (without_client-absent k es (rw n at h)))
    ]

-- a key that is nobody's isn't found
pub client-none : (k : Key) (es : List PlainEntry) → IsOfOthers k es → find_client k es ≡ None
client-none k [] h = refl
client-none k (e ∷ es) h =
    elim (cases_Bool (same_key e.request.key k)) [
      | inl y ↦ absurd (h.0 (key-equal e.request.key k y))
      | inr n ↦ rw n (client-none k es h.1)
    ]

-- one entry is found by a key
pub without_client-found :
    (k : Key) (es : List PlainEntry) (e : PlainEntry) → IsInOrder es → HasDistinctKeys es
    → find_client k es ≡ Some e → without_client k es ≡ without e.ticket es
without_client-found k [] e order distinct at = refl
without_client-found k (x ∷ xs) e order distinct at =
    elim (cases_Bool (same_key x.request.key k)) [
      | inl y ↦
          let some : Some x ≡ Some e = rw y at at in
          let here : x ≡ e = cc some in
          let ticket : x.ticket ≡ e.ticket = ap (λ (z : PlainEntry). z.ticket) here in
          let others : IsOfOthers k xs = subst (λ (j : Key). IsOfOthers j xs) (key-equal x.request.key k y)
          distinct.0 in
          let left = without_client-absent k xs (client-none k xs others) in
          let rest = without-absent e.ticket xs (find-above x.ticket e.ticket xs (omega arith) order.0) in
          rw (y, same x.ticket e.ticket ticket) (left ∙ sym rest)
      | inr n ↦
          let later = rw n at at in
          let lt = all-find (λ (z : PlainEntry). x.ticket < z.ticket) (has_key k) xs e later order.0 in
          rw (n, differs x.ticket e.ticket (omega arith))
          (ap (λ (l : List PlainEntry). x ∷ l) (without_client-found k xs e order.1 distinct.1 later))
    ]

-- how a standing counts among the Identifiers in use
identifier_step :
    (l : Link) (i : ℕ) (s : PlainStanding) (rest : List ℕ)
    → list_any (λ j. j == i) (cons_option (identifier_on l s) rest) ≡ (stands_at l i s || list_any (λ j. j == i) rest)
identifier_step l i (waiting link id forwarded sends_left deadline signs) rest =
    elim (cases_Bool (same_link link l)) [
      | inl y ↦ rw y refl
      | inr n ↦ rw n refl
    ]
identifier_step l i (done reply deadline from) rest = refl

or_found :
    (b : Bool) (e : PlainEntry) (o : Option PlainEntry)
    → is_some (cond b (Some e) o) ≡ (b || is_some o)
or_found true e o = refl
or_found false e o = refl

-- an Identifier is in use just where an entry waits with it
pub identifier-used :
    (l : Link) (i : ℕ) (es : List PlainEntry)
    → list_any (λ j. j == i) (identifiers_on l es) ≡ is_some (find_link l i es)
identifier-used l i [] = refl
identifier-used l i (e ∷ es) =
    identifier_step l i e.standing (identifiers_on l es)
    ∙ ap (λ (b : Bool). stands_at l i e.standing || b) (identifier-used l i es)
    ∙ sym (or_found (stands_at l i e.standing) e (find_link l i es))

-- the ticket of a done entry is that of one
ticket_of :
    (o : Option PlainEntry) (t : ℕ) → option_map (λ e. e.ticket) o ≡ Some t
    → (e : PlainEntry) × (o ≡ Some e) × (e.ticket ≡ t)
ticket_of None t h = absurd (let k : None ≡ Some t = h in cc)
ticket_of (Some e) t h = (e, refl, (let k : Some e.ticket ≡ Some t = h in cc k))

pub done-found :
    (es : List PlainEntry) (t : ℕ) → IsInOrder es → first_done es ≡ Some t
    → (e : PlainEntry) × (find_ticket t es ≡ Some e) × (is_done e ≡ true)
done-found es t order h =
    let found = ticket_of (find is_done es) t h in
    let at = found-is is_done es found.0 order found.1 in
    (found.0, ap (λ (n : ℕ). find_ticket n es) (sym found.2) ∙ at, find-passes is_done es found.0 found.1)
