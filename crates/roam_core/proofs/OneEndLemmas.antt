-- To how many ends some links lead: links to one end count once.
use Rattle.std.proofs.Common.{◌≡◌, ℕ, ◌+◌, ◌≤◌, Bool, true, false, List, [], ◌∷◌, ◌++◌, Option, Some, None, refl, sym, ◌∙◌, inl, inr, arith, length}
use Rattle.std.specs.Prelude.{◌||◌}
use Rattle.std.specs.List.{AllByRecursion, filter, list_any}
use Rattle.std.proofs.lemmas.Bool.{cases_Bool}
use Rattle.roam_address.specs.declared.endpoint.Endpoint.{Endpoint}
use Rattle.roam_conf.specs.Ways.{same_kind}
use Rattle.roam_conf.specs.declared.place.Link.{Link}
use Rattle.roam_pending.proofs.TestLemmas.{all-weaker}
use Rattle.roam_realm.specs.Conversing.{same_end}
use Rattle.roam_realm.specs.RealmConfig.{ways_from, ways_to}
use Rattle.roam_core.specs.Amplification.{one_each}

-- to how many ends those of some links lead that pass a test
abbrev pub ends_in : (Link → Bool) → List Link → ℕ
ends_in p ls = length (one_each (filter p ls))

-- one more link leads to no fewer, and to one more at most
each-more : (l : Link) (ls : List Link) → length (one_each ls) ≤ length (one_each (l ∷ ls))
each-more l ls =
    elim (cases_Bool (list_any (same_end l) ls)) [
      | inl y ↦ rw y (omega arith)
      | inr n ↦ rw n (omega arith)
    ]

each-one : (l : Link) (ls : List Link) → length (one_each (l ∷ ls)) ≤ 1 + length (one_each ls)
each-one l ls =
    elim (cases_Bool (list_any (same_end l) ls)) [
      | inl y ↦ rw y (omega arith)
      | inr n ↦ rw n (omega arith)
    ]

one-more : (p : Link → Bool) (l : Link) (ls : List Link) → ends_in p ls ≤ ends_in p (l ∷ ls)
one-more p l ls =
    elim (cases_Bool (p l)) [
      | inl y ↦ rw y (each-more l (filter p ls))
      | inr n ↦ rw n (omega arith)
    ]

pub further-more : (p : Link → Bool) (ws ls : List Link) → ends_in p ls ≤ ends_in p (ws ++ ls)
further-more p [] ls = omega arith
further-more p (w ∷ ws) ls =
    let rest = further-more p ws ls in
    let more = one-more p w (ws ++ ls) in
    omega arith

-- what none passes, none passes of those that pass another test
neither : (a b : Bool) → (a || b) ≡ false → (a ≡ false) × (b ≡ false)
neither false b h = (refl, h)
neither true b h = absurd (let k : true ≡ false = h in cc)

none-filter : (f p : Link → Bool) (ls : List Link) → list_any f ls ≡ false → list_any f (filter p ls) ≡ false
none-filter f p [] h = refl
none-filter f p (l ∷ ls) h =
    let parts = neither (f l) (list_any f ls) h in
    let rest = none-filter f p ls parts.1 in
    elim (cases_Bool (p l)) [
      | inl y ↦ rw y (rw parts.0 rest)
      | inr n ↦ rw n rest
    ]

-- one that passes both is among the first, where none of the others passes the one
found-among : (f p : Link → Bool) (ws ls : List Link) → list_any f ls ≡ false
    → list_any f (filter p (ws ++ ls)) ≡ true → list_any p ws ≡ true
found-among f p [] ls none found = absurd (let k : true ≡ false = sym found ∙ none-filter f p ls none in cc)
found-among f p (w ∷ ws) ls none found =
    elim (cases_Bool (p w)) [
      | inl y ↦ rw y refl
      | inr n ↦ rw n (found-among f p ws ls none (rw n at found))
    ]

-- none of the first leads to an end that one of the others leads to
abbrev pub LeadElsewhere : List Link → List Link → Type 0
LeadElsewhere ws ls = AllByRecursion (λ w. list_any (same_end w) ls ≡ false) ws

-- so where one of the first passes, all together lead to one end more than the others
pub apart-more : (p : Link → Bool) (ws ls : List Link) → LeadElsewhere ws ls → list_any p ws ≡ true
    → 1 + ends_in p ls ≤ ends_in p (ws ++ ls)
apart-more p [] ls apart some = absurd (let k : false ≡ true = some in cc)
apart-more p (w ∷ ws) ls apart some =
    elim (cases_Bool (p w)) [
      | inl y ↦
          rw y
          (elim (cases_Bool (list_any (same_end w) (filter p (ws ++ ls)))) [
            | inl found ↦ rw found (apart-more p ws ls apart.1 (found-among (same_end w) p ws ls apart.0 found))
            | inr none ↦ let rest = further-more p ws ls in rw none (omega (arith, rest))
          ])
      | inr n ↦ rw n (apart-more p ws ls apart.1 (rw n at some))
    ]

-- where one passes, some do
pub each-passes : (p : Link → Bool) (ws : List Link) →
    AllByRecursion (λ l. p l ≡ true → list_any p ws ≡ true) ws
each-passes p [] = tt
each-passes p (w ∷ ws) = (
  (λ h. rw h refl),
  all-weaker (λ l. p l ≡ true → list_any p ws ≡ true) (λ l. p l ≡ true → list_any p (w ∷ ws) ≡ true) ws
      (λ l some h. passes (p w) (list_any p ws) (some h)) (each-passes p ws),
)
  where
    passes : (a b : Bool) → b ≡ true → (a || b) ≡ true
    passes true b h = refl
    passes false b h = h

-- each leads to the end of the one before
abbrev pub Alike : List Link → Type 0
Alike [] = Unit {0}
Alike (v ∷ []) = Unit {0}
Alike (v ∷ w ∷ ws) = (same_end v w ≡ true) × Alike (w ∷ ws)

-- then they lead to one end at most
pub alike-one : (ws ls : List Link) → Alike ws → length (one_each (ws ++ ls)) ≤ 1 + length (one_each ls)
alike-one [] ls h = omega arith
alike-one (v ∷ []) ls h = each-one v ls
alike-one (v ∷ w ∷ ws) ls h =
    let rest = alike-one (w ∷ ws) ls h.1 in
    rw h.0 rest

-- The links to one endpoint

-- what holds of the link by each `out`
from-all : (Q : Link → Type 0) (link_by : ℕ → Link) → ((k : ℕ) → Q (link_by k)) →
    (place : ℕ) (outs : List Endpoint) (e : Endpoint) → AllByRecursion Q (ways_from link_by place outs e)
from-all Q link_by each place [] e = tt
from-all Q link_by each place (out ∷ outs) e =
    let rest = from-all Q link_by each (place + 1) outs e in
    elim (cases_Bool (same_kind out e)) [
      | inl y ↦ rw y (each place, rest)
      | inr n ↦ rw n rest
    ]

pub to-all : (Q : Link → Type 0) (link_by : ℕ → Link) → ((k : ℕ) → Q (link_by k)) →
    (outs : List Endpoint) (o : Option Endpoint) → AllByRecursion Q (ways_to outs link_by o)
to-all Q link_by each outs None = tt
to-all Q link_by each outs (Some e) = from-all Q link_by each 0 outs e

-- none passes a test that none of them passes
from-none : (f : Link → Bool) (link_by : ℕ → Link) → ((k : ℕ) → f (link_by k) ≡ false) →
    (place : ℕ) (outs : List Endpoint) (e : Endpoint) → list_any f (ways_from link_by place outs e) ≡ false
from-none f link_by each place [] e = refl
from-none f link_by each place (out ∷ outs) e =
    let rest = from-none f link_by each (place + 1) outs e in
    elim (cases_Bool (same_kind out e)) [
      | inl y ↦ rw y (rw (each place) rest)
      | inr n ↦ rw n rest
    ]

pub to-none : (f : Link → Bool) (link_by : ℕ → Link) → ((k : ℕ) → f (link_by k) ≡ false) →
    (outs : List Endpoint) (o : Option Endpoint) → list_any f (ways_to outs link_by o) ≡ false
to-none f link_by each outs None = refl
to-none f link_by each outs (Some e) = from-none f link_by each 0 outs e

-- and they are alike
alike-more : (v : Link) (ws : List Link) → AllByRecursion (λ w. same_end v w ≡ true) ws → Alike ws → Alike (v ∷ ws)
alike-more v [] all h = tt
alike-more v (w ∷ ws) all h = (all.0, h)

from-alike : (link_by : ℕ → Link) → ((k m : ℕ) → same_end (link_by k) (link_by m) ≡ true) →
    (place : ℕ) (outs : List Endpoint) (e : Endpoint) → Alike (ways_from link_by place outs e)
from-alike link_by same place [] e = tt
from-alike link_by same place (out ∷ outs) e =
    let rest = from-alike link_by same (place + 1) outs e in
    let others = ways_from link_by (place + 1) outs e in
    let all = from-all (λ w. same_end (link_by place) w ≡ true) link_by (same place) (place + 1) outs e in
    elim (cases_Bool (same_kind out e)) [
      | inl y ↦ rw y (alike-more (link_by place) others all rest)
      | inr n ↦ rw n rest
    ]

pub to-alike : (link_by : ℕ → Link) → ((k m : ℕ) → same_end (link_by k) (link_by m) ≡ true) →
    (outs : List Endpoint) (o : Option Endpoint) → Alike (ways_to outs link_by o)
to-alike link_by same outs None = tt
to-alike link_by same outs (Some e) = from-alike link_by same 0 outs e
