-- Which lengths the suffixes in an index have, and that no other one is there.
use Rattle.std.proofs.Common.{◌≡◌, ℕ, ◌+◌, ◌<◌, ◌≤◌, ◌==◌, suc, Bool, true, false, inl, inr, List, [], ◌∷◌, length, map, get_or, drop, drop-cons, Option, None, refl, sym, ap, ◌∙◌, arith}
use Rattle.std.proofs.lemmas.Bool.{cases_Bool, false≢true, or_parts}
use Rattle.std.proofs.lemmas.Bool.Decides.{nat_tests}
use Rattle.std.proofs.lemmas.List.{length-map, drop-map, at_drop_more, drop_all}
use Rattle.std.proofs.lemmas.Slice.Eq.{bytes_eq-Decides}
use Rattle.std.specs.Char.{to_ascii_lowercase}
use Rattle.std.specs.List.{list_any}
use Rattle.std.specs.Map.{keys_of}
use Rattle.std.specs.Option.{option_or}
use Rattle.std.specs.Str.{bytes_eq, str_to_ascii_lowercase}
use Rattle.std.specs.declared.vec.Vec.{Vec}
use Rattle.roam_conf.specs.Config.{suffix, ConfigView}
use Rattle.roam_conf.specs.Index.{entry_shown, owner_of, all_patterns, pattern_key, is_marked, HasMark, AreMarked}
use Rattle.roam_conf.specs.Lookup.{owner_with, pattern_lists, first_answer, after_dots}
use Rattle.roam_conf.proofs.NameLemmas.{found_in}

-- a length that isn't marked wasn't before
pub not_before : (old new : List Bool) (n : ℕ) → ((k : ℕ) → is_marked old k ≡ true → is_marked new k ≡ true) →
    is_marked new n ≡ false → is_marked old n ≡ false
not_before old new n stays off =
    elim (cases_Bool (is_marked old n)) [
      | inl yes' ↦ absurd (false≢true (sym off ∙ stays n yes'))
      | inr no' ↦ no'
    ]

module _ {Z : Type 0} where
  -- one of the keys is this row
  abbrev pub is_among : List ℕ → List (Vec ℕ Z) → Bool
  is_among row keys = list_any (λ (k : Vec ℕ Z). bytes_eq row k.items) keys

  -- a suffix whose length isn't marked isn't the key at a place
  pub one_less : (marks : List Bool) (keys : List (Vec ℕ Z)) (i : ℕ) (key : Vec ℕ Z) (name : List ℕ) →
      i < length keys → key ≡ get_or keys i key → HasMark marks key.items → length name ≤ 253 →
      is_marked marks (length name) ≡ false →
      is_among (46 ∷ name) (drop (i + 1) keys) ≡ is_among (46 ∷ name) (drop i keys)
  one_less marks keys i key name within is mark small off =
      let next : suc i ≡ i + 1 = omega arith in
      let here : drop i keys ≡ key ∷ drop (i + 1) keys = drop-cons keys i key within
      ∙ ap (λ n. get_or keys i key ∷ drop n keys) next ∙ ap (λ k. k ∷ drop (i + 1) keys) (sym is) in
      let other : bytes_eq (46 ∷ name) key.items ≡ false = elim (cases_Bool (bytes_eq (46 ∷ name) key.items)) [
        | inl yes' ↦ absurd (false≢true (sym off
            ∙ mark name (sym ((bytes_eq-Decides (46 ∷ name) key.items).0 yes')) small))
        | inr no' ↦ no'
      ] in
      sym (ap (is_among (46 ∷ name)) here ∙ rw other refl)

  -- a row that is no key has no owner
  pub no_owner : (row : List ℕ) (entries : List (Vec ℕ Z × ℕ)) → is_among row (keys_of entries) ≡ false →
      owner_of (map entry_shown entries) row ≡ None
  no_owner row [] none = refl
  no_owner row (e ∷ es) none =
      let parts = or_parts (bytes_eq row e.0.items) (is_among row (keys_of es)) none in
      rw parts.0 (no_owner row es parts.1)

  -- a row that isn't among the keys, where all of them were looked at
  pub none_left : (row : List ℕ) (keys : List (Vec ℕ Z)) (i : ℕ) → length keys ≤ i →
      is_among row (drop i keys) ≡ is_among row keys → is_among row keys ≡ false
  none_left row keys i past same = sym same ∙ ap (is_among row) (drop_all i keys past)

-- of a length that isn't marked no suffix is anybody's
pub no_suffix : (config : ConfigView) (marks : List Bool) (entries : List (List ℕ × ℕ)) (octets : ℕ) →
    AreMarked marks entries → entries ≡ all_patterns 0 (pattern_lists config.realms config.reject) → octets ≤ 253 →
    is_marked marks octets ≡ false → (name : List ℕ) → length name ≡ octets → owner_with config (suffix name) ≡ None
no_suffix config marks entries octets marked noted small off name size =
    let lower = str_to_ascii_lowercase name in
    let as_long : length lower ≡ octets = length-map name to_ascii_lowercase ∙ size in
    sym (found_in config (suffix name) (46 ∷ lower) entries noted refl)
    ∙ marked lower (omega (arith, as_long, small)) (ap (is_marked marks) as_long ∙ off)

-- The answers of what follows the dots, past an octet.

dot_passed : (f : List ℕ → Option ℕ) (x : ℕ) (text : List ℕ) → (x == 46) ≡ true → f text ≡ None →
    first_answer f (after_dots (x ∷ text)) ≡ first_answer f (after_dots text)
dot_passed f x text dot none = rw (dot, none) refl

other_passed : (f : List ℕ → Option ℕ) (x : ℕ) (text : List ℕ) → (x == 46) ≡ false →
    first_answer f (after_dots (x ∷ text)) ≡ first_answer f (after_dots text)
other_passed f x text other = rw other refl

-- no other octet is a dot
not_dot : (x : ℕ) → (x ≡ 46 → ⊥) → (x == 46) ≡ false
not_dot x other =
    elim (cases_Bool (x == 46)) [
      | inl yes' ↦ absurd (other (grind (arith, nat_tests)))
      | inr no' ↦ no'
    ]

module _ (f : List ℕ → Option ℕ) (rest : List ℕ) (i : ℕ) (within : i < length rest) where
  -- a dot behind which there is no answer
  pub past_dot : get_or rest i 0 ≡ 46 → f (drop (i + 1) rest) ≡ None →
      first_answer f (after_dots (drop (i + 1) rest)) ≡ first_answer f (after_dots (drop i rest))
  past_dot dot none =
      sym (at_drop_more (λ l. first_answer f (after_dots l)) rest i 0 within
      ∙ dot_passed f (get_or rest i 0) (drop (i + 1) rest) (ap (λ x. x == 46) dot) none)

  -- an octet that is none
  pub past_other : (get_or rest i 0 ≡ 46 → ⊥) →
      first_answer f (after_dots (drop (i + 1) rest)) ≡ first_answer f (after_dots (drop i rest))
  past_other other =
      sym (at_drop_more (λ l. first_answer f (after_dots l)) rest i 0 within
      ∙ other_passed f (get_or rest i 0) (drop (i + 1) rest) (not_dot (get_or rest i 0) other))

  -- a dot, with the answer behind it
  pub at_dot : (answer : Option ℕ) → get_or rest i 0 ≡ 46 → answer ≡ f (drop (i + 1) rest) →
      option_or answer (first_answer f (after_dots (drop (i + 1) rest))) ≡ first_answer f (after_dots (drop i rest))
  at_dot answer dot is =
      sym (at_drop_more (λ l. first_answer f (after_dots l)) rest i 0 within
      ∙ ap (λ x. first_answer f (after_dots (x ∷ drop (i + 1) rest))) dot
      ∙ ap (λ a. option_or a (first_answer f (after_dots (drop (i + 1) rest)))) (sym is))

-- what begins at a dot, in lower case, is the key of what follows it as a suffix
pub key_at : (text lowered : List ℕ) (i : ℕ) → i < length text → lowered ≡ str_to_ascii_lowercase text →
    get_or text i 0 ≡ 46 → drop i lowered ≡ pattern_key (suffix (drop (i + 1) text))
key_at text lowered i within same dot =
    ap (drop i) same
    ∙ drop-map to_ascii_lowercase i text
    ∙ at_drop_more (λ l. str_to_ascii_lowercase l) text i 0 within
    ∙ ap (λ x. to_ascii_lowercase x ∷ str_to_ascii_lowercase (drop (i + 1) text)) dot
