-- Two equal items of a list are found by one pass over it, which looks for each among those before it.
use Rattle.std.proofs.Common.{◌≡◌, ℕ, ◌+◌, ◌<◌, ◌≤◌, ◌==◌, suc, Bool, true, false, ◌&&◌, ◌||◌, not, cond, List, [], ◌∷◌, ◌++◌, length, take, drop, get_or, drop-cons, take_all, refl, sym, ap, ◌∙◌, inl, inr, arith, Decides}
use Rattle.std.proofs.lemmas.Bool.{cases_Bool, false≢true, or_parts}
use Rattle.std.proofs.lemmas.Bool.Decides.{Decides-eqb}
use Rattle.std.proofs.lemmas.List.{take-append-drop, take_more}
use Rattle.std.proofs.lemmas.List.Folds.{list_any-append}
use Rattle.indexmap.specs.IndexSet.{insert_key}
use Rattle.std.specs.List.{list_any}
use Rattle.roam_address.specs.declared.address.Address.{Address}
use Rattle.roam_address.specs.declared.endpoint.Endpoint.{Endpoint}
use Rattle.roam_address.specs.Same.{same_address}
use Rattle.roam_address.proofs.SameLemmas.{address_decides}
use Rattle.roam_conf.specs.Duplicates.{has_pair, same_endpoint}

-- ## By any test that is the same both ways

or_true : (a : Bool) → a || true ≡ true
or_true true = refl
or_true false = refl

module _ {X : Type 0} (same : X → X → Bool) (both_ways : (a b : X) → same a b ≡ same b a) where
  -- an item that is among those before it
  pub pair_behind : (done : List X) (x : X) (rest : List X) → list_any (same x) done ≡ true →
      has_pair same (done ++ x ∷ rest) ≡ true
  pair_behind [] x rest there = absurd (false≢true there)
  pair_behind (d ∷ ds) x rest there =
      elim (cases_Bool (same x d)) [
        | inl yes' ↦ (
            let here : list_any (same d) (ds ++ x ∷ rest) ≡ true = list_any-append (same d) ds (x ∷ rest)
            ∙ rw (both_ways d x, yes') (or_true (list_any (same d) ds)) in
            rw here refl)
        | inr no' ↦ (
            let more : list_any (same x) ds ≡ true = rw no' at there in
            rw (pair_behind ds x rest more) (or_true (list_any (same d) (ds ++ x ∷ rest))))
      ]

  -- one that isn't, behind those of which no two are equal
  pub no_pair_behind : (done : List X) (x : X) → has_pair same done ≡ false → list_any (same x) done ≡ false →
      has_pair same (done ++ x ∷ []) ≡ false
  no_pair_behind [] x none absent = refl
  no_pair_behind (d ∷ ds) x none absent =
      let first = or_parts (list_any (same d) ds) (has_pair same ds) none in
      let apart = or_parts (same x d) (list_any (same x) ds) absent in
      let here : list_any (same d) (ds ++ x ∷ []) ≡ false = list_any-append (same d) ds (x ∷ [])
      ∙ rw (first.0, both_ways d x, apart.0) refl in
      rw (here, no_pair_behind ds x first.1 apart.1) refl

-- ## Endpoints

both_tests : {P : Type 0} (a b : Bool) → Decides a P → Decides b P → a ≡ b
both_tests true true p q = refl
both_tests true false p q = sym (q.1 (p.0 refl))
both_tests false true p q = p.1 (q.0 refl)
both_tests false false p q = refl

address_both_ways : (a b : Address) → same_address a b ≡ same_address b a
address_both_ways a b =
    both_tests (same_address a b) (same_address b a) (address_decides a b)
    (λ h. sym ((address_decides b a).0 h), λ h. (address_decides b a).1 (sym h))

port_both_ways : (a b : ℕ) → (a == b) ≡ (b == a)
port_both_ways a b =
    both_tests (a == b) (b == a) (Decides-eqb a b)
    (λ h. sym ((Decides-eqb b a).0 h), λ h. (Decides-eqb b a).1 (sym h))

pub endpoint_both_ways : (a b : Endpoint) → same_endpoint a b ≡ same_endpoint b a
endpoint_both_ways a b =
    ap (λ x. x && (a.port == b.port)) (address_both_ways a.ip b.ip)
    ∙ ap (λ x. same_address b.ip a.ip && x) (port_both_ways a.port b.port)

-- ## The pass over endpoints

-- the first endpoints are in the set, and no two of them are equal
pub record AreApart (endpoints : List Endpoint) (count : ℕ) (keys : List Endpoint) : Type 0 where
  pub stands : keys ≡ take count endpoints
  pub apart : has_pair same_endpoint (take count endpoints) ≡ false

pub none_apart : (endpoints keys : List Endpoint) → keys ≡ [] → AreApart endpoints 0 keys
none_apart endpoints keys none = record { stands = none; apart = refl }

not_added : (b : Bool) → true ≡ not b → b ≡ false
not_added true is = is
not_added false is = refl

added_not : (b : Bool) → false ≡ not b → b ≡ true
added_not true is = refl
added_not false is = is

module _ (endpoints : List Endpoint) (i : ℕ) (e : Endpoint) (keys : List Endpoint) (all : AreApart endpoints i keys)
    (within : i < length endpoints) (is : e ≡ get_or endpoints i e) (added : Bool)
    (says : added ≡ not (list_any (same_endpoint e) keys)) where
  -- one more endpoint, which isn't there yet
  pub next_apart : (new : List Endpoint) → added ≡ true → new ≡ insert_key same_endpoint keys e →
      AreApart endpoints (i + 1) new
  next_apart new yes' inserted =
      let none : list_any (same_endpoint e) keys ≡ false =
      not_added (list_any (same_endpoint e) keys) (sym yes' ∙ says) in
      let last : new ≡ keys ++ e ∷ [] = inserted ∙ ap (λ b. cond b keys (keys ++ e ∷ [])) none in
      let front : take (i + 1) endpoints ≡ take i endpoints ++ e ∷ [] =
      take_more endpoints i e within ∙ ap (λ x. take i endpoints ++ x ∷ []) (sym is) in
      record {
        stands = last ∙ ap (λ (l : List Endpoint). l ++ e ∷ []) all.stands ∙ sym front;
        apart = ap (has_pair same_endpoint) front
            ∙ no_pair_behind same_endpoint endpoint_both_ways (take i endpoints) e all.apart
            (ap (list_any (same_endpoint e)) (sym all.stands) ∙ none);
      }

  -- one that is there
  pub twice : added ≡ false → has_pair same_endpoint endpoints ≡ true
  twice no' =
      let there : list_any (same_endpoint e) (take i endpoints) ≡ true =
      ap (list_any (same_endpoint e)) (sym all.stands)
      ∙ added_not (list_any (same_endpoint e) keys) (sym no' ∙ says) in
      let next : suc i ≡ i + 1 = omega arith in
      let here : drop i endpoints ≡ e ∷ drop (i + 1) endpoints = drop-cons endpoints i e within
      ∙ ap (λ n. get_or endpoints i e ∷ drop n endpoints) next ∙ ap (λ x. x ∷ drop (i + 1) endpoints) (sym is) in
      ap (has_pair same_endpoint) (sym (take-append-drop i endpoints)
      ∙ ap (λ l. take i endpoints ++ l) here)
      ∙ pair_behind same_endpoint endpoint_both_ways (take i endpoints) e (drop (i + 1) endpoints) there

-- all of them
pub all_apart : (endpoints : List Endpoint) (count : ℕ) (keys : List Endpoint) → AreApart endpoints count keys →
    length endpoints ≤ count → (keys ≡ endpoints) × (false ≡ has_pair same_endpoint endpoints)
all_apart endpoints count keys all past =
    let whole : take count endpoints ≡ endpoints = take_all count endpoints past in
    (all.stands ∙ whole, sym (ap (has_pair same_endpoint) (sym whole) ∙ all.apart))
