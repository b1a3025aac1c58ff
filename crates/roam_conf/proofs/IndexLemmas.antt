-- What an index finds is what its list of keys and owners says.
use Rattle.std.proofs.Common.{◌≡◌, ℕ, Bool, true, false, cond, inl, inr, List, [], ◌∷◌, ◌++◌, map, Option, Some, None, is_some, refl, sym, ap, ◌∙◌}
use Rattle.std.proofs.lemmas.Bool.{cases_Bool, false≢true}
use Rattle.std.proofs.lemmas.List.{map-append}
use Rattle.std.proofs.lemmas.Slice.Eq.{bytes_eq-Decides}
use Rattle.std.specs.Option.{option_or}
use Rattle.std.specs.Prelude.{is_none, if◌then◌else◌}
use Rattle.std.specs.Map.{lookup}
use Rattle.std.specs.Str.{bytes_eq}
use Rattle.std.specs.declared.vec.Vec.{Vec}
use Rattle.indexmap.specs.IndexMap.{IndexMap, get_by, insert_entry}
use Rattle.indexmap.proofs.CallerLemmas.{insert_entry-new}
use Rattle.roam_conf.specs.Index.{entry_shown, owners, owner_of, with_key}

-- a look-up by the octets of a key
pub shown_lookup : {Z : Type 0} (key : List ℕ) (entries : List (Vec ℕ Z × ℕ)) →
    lookup (λ k. bytes_eq key k.items) entries ≡ lookup (bytes_eq key) (map entry_shown entries)
shown_lookup key [] = refl
shown_lookup key (e ∷ es) = ap (cond (bytes_eq key e.0.items) (Some e.1)) (shown_lookup key es)

-- a key is there just where an owner is found
module _ {Z H : Type 0} (m n : IndexMap (Vec ℕ Z) ℕ H) (key : Vec ℕ Z) (owner : ℕ) where
  pub known : true ≡ is_some (get_by (λ k. bytes_eq key.items k.items) m) →
      is_none (owner_of (owners m) key.items) ≡ false
  known there = by_owner (owner_of (owners m) key.items) (there ∙ ap is_some (shown_lookup key.items m.entries))
    where
      by_owner : (found : Option ℕ) → true ≡ is_some found → is_none found ≡ false
      by_owner None is = absurd (false≢true (sym is))
      by_owner (Some x) is = refl

  pub unknown : false ≡ is_some (get_by (λ k. bytes_eq key.items k.items) m) →
      get_by (λ k. bytes_eq key.items k.items) m ≡ None
  unknown missing = by_owner (get_by (λ k. bytes_eq key.items k.items) m) missing
    where
      by_owner : (found : Option ℕ) → false ≡ is_some found → found ≡ None
      by_owner None is = refl
      by_owner (Some x) is = absurd (false≢true is)

  pub absent : get_by (λ k. bytes_eq key.items k.items) m ≡ None → is_none (owner_of (owners m) key.items) ≡ true
  absent none = ap is_none (sym (shown_lookup key.items m.entries) ∙ none)

  -- a key that was noted stands behind the others
  pub noted_entries : get_by (λ k. bytes_eq key.items k.items) m ≡ None →
      n.entries ≡ insert_entry (λ a b. bytes_eq a.items b.items) m.entries key owner →
      owners n ≡ owners m ++ (key.items, owner) ∷ []
  noted_entries none is =
      ap (map entry_shown) (is ∙ insert_entry-new (λ (a b : Vec ℕ Z). bytes_eq a.items b.items) m key owner none)
      ∙ map-append entry_shown m.entries ((key, owner) ∷ [])

pub or_none : (o : Option ℕ) → option_or o None ≡ o
or_none None = refl
or_none (Some x) = refl

pub same_both_ways : (a b : List ℕ) → bytes_eq a b ≡ bytes_eq b a
same_both_ways a b =
    elim (cases_Bool (bytes_eq a b)) [
      | inl yes' ↦ (
          let is : a ≡ b = (bytes_eq-Decides a b).0 yes' in
          yes' ∙ sym ((bytes_eq-Decides b a).1 (sym is)))
      | inr no' ↦ elim (cases_Bool (bytes_eq b a)) [
        | inl yes' ↦ absurd (false≢true (sym no' ∙ (bytes_eq-Decides a b).1 (sym ((bytes_eq-Decides b a).0 yes'))))
        | inr neither ↦ no' ∙ sym neither
      ]
    ]

lookup_behind : (key : List ℕ) (entries : List (List ℕ × ℕ)) (k : List ℕ) (o : ℕ) →
    owner_of (entries ++ (k, o) ∷ []) key ≡ option_or (owner_of entries key) (cond (bytes_eq key k) (Some o) None)
lookup_behind key [] k o = refl
lookup_behind key (e ∷ es) k o = by_test (bytes_eq key e.0) (lookup_behind key es k o)
  where
    by_test : (b : Bool) → owner_of (es ++ (k, o) ∷ []) key
        ≡ option_or (owner_of es key) (cond (bytes_eq key k) (Some o) None) →
        cond b (Some e.1) (owner_of (es ++ (k, o) ∷ []) key)
        ≡ option_or (cond b (Some e.1) (owner_of es key)) (cond (bytes_eq key k) (Some o) None)
    by_test true rest = refl
    by_test false rest = rest

-- the owner of a key once one more was noted: the first counts
pub owner_with_key : (key : List ℕ) (entries : List (List ℕ × ℕ)) (k : List ℕ) (o : ℕ) →
    owner_of (with_key entries k o) key ≡ option_or (owner_of entries key) (cond (bytes_eq key k) (Some o) None)
owner_with_key key entries k o = by_owner (owner_of entries k) refl
  where
    there : (x : ℕ) → owner_of entries k ≡ Some x →
        owner_of entries key ≡ option_or (owner_of entries key) (cond (bytes_eq key k) (Some o) None)
    there x is =
        elim (cases_Bool (bytes_eq key k)) [
          | inl yes' ↦ (
              let same : key ≡ k = (bytes_eq-Decides key k).0 yes' in
              let found : owner_of entries key ≡ Some x = ap (owner_of entries) same ∙ is in
              rw found refl)
          | inr no' ↦ rw no' (sym (or_none (owner_of entries key)))
        ]

    by_owner : (found : Option ℕ) → owner_of entries k ≡ found →
        owner_of (with_key entries k o) key ≡ option_or (owner_of entries key) (cond (bytes_eq key k) (Some o) None)
    by_owner None is = ap (λ l. owner_of (if is_none l then entries ++ (k, o) ∷ [] else entries) key) is
        ∙ lookup_behind key entries k o
    by_owner (Some x) is = ap (λ l. owner_of (if is_none l then entries ++ (k, o) ∷ [] else entries) key) is
        ∙ there x is

pub or_more : (a : Option ℕ) (b : Bool) (o : ℕ) (rest : Option ℕ) →
    option_or (option_or a (cond b (Some o) None)) rest ≡ option_or a (cond b (Some o) rest)
or_more None true o rest = refl
or_more None false o rest = refl
or_more (Some x) b o rest = refl

-- the owners once a key was noted
pub noted_key : (entries new : List (List ℕ × ℕ)) (key k : List ℕ) (o : ℕ) → new ≡ with_key entries k o →
    owner_of new key ≡ option_or (owner_of entries key) (cond (bytes_eq key k) (Some o) None)
noted_key entries new key k o is = ap (λ l. owner_of l key) is ∙ owner_with_key key entries k o

-- one more key of a list of owners, noted behind those before it
pub noted_one : (entries new : List (List ℕ × ℕ)) (key k : List ℕ) (o : ℕ) (rest : Option ℕ) →
    new ≡ with_key entries k o → option_or (owner_of new key) rest
    ≡ option_or (owner_of entries key) (cond (bytes_eq k key) (Some o) rest)
noted_one entries new key k o rest is =
    ap (λ l. option_or (owner_of l key) rest) is
    ∙ ap (λ a. option_or a rest) (owner_with_key key entries k o)
    ∙ or_more (owner_of entries key) (bytes_eq key k) o rest
    ∙ ap (λ b. option_or (owner_of entries key) (cond b (Some o) rest)) (same_both_ways key k)
