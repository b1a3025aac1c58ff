-- Two Operator-Names mean the same just where they are found by one key, and no peer has a long one.
use Rattle.std.proofs.Common.{◌≡◌, ℕ, ◌+◌, ◌≤◌, ◌<◌, true, false, cond, List, [], ◌∷◌, length, map, Option, Some, None, option_map, String, Global, string_bytes, inl, inr, refl, sym, ap, ◌∙◌, arith, eqb-true}
use Rattle.std.proofs.lemmas.Bool.{cases_Bool, false≢true}
use Rattle.std.proofs.lemmas.List.{length-map}
use Rattle.std.proofs.lemmas.Slice.Eq.{bytes_eq-Decides}
use Rattle.std.specs.Char.{to_ascii_lowercase}
use Rattle.std.specs.List.{position_from}
use Rattle.std.specs.Str.{bytes_eq, str_to_ascii_lowercase}
use Rattle.roam_conf.specs.declared.peer.Peer.{Peer}
use Rattle.roam_conf.specs.Config.{PeerView}
use Rattle.roam_conf.specs.Operators.{names_realm, operator_key, same_operator, same_operator_if_there}
use Rattle.roam_conf.specs.Parts.{shown_peer}
use Rattle.roam_conf.specs.Targets.{peer_with_operator}
use Rattle.roam_conf.proofs.IndexLemmas.{same_both_ways}

-- a value in lower case is of namespace REALM where it was
lower_names : (value : List ℕ) → names_realm value ≡ true → names_realm (str_to_ascii_lowercase value) ≡ true
lower_names [] is = is
lower_names (space ∷ name) is = rw (eqb-true space 49 is) refl

-- one of namespace REALM in lower case is none of another
never_same : (a b : List ℕ) → names_realm a ≡ true → names_realm b ≡ false →
    bytes_eq (str_to_ascii_lowercase a) b ≡ false
never_same a b realm other =
    elim (cases_Bool (bytes_eq (str_to_ascii_lowercase a) b)) [
      | inl yes' ↦ (
          let same : str_to_ascii_lowercase a ≡ b = (bytes_eq-Decides (str_to_ascii_lowercase a) b).0 yes' in
          absurd (false≢true (sym other ∙ ap names_realm (sym same) ∙ lower_names a realm)))
      | inr no' ↦ no'
    ]

not_equal : (a b : List ℕ) → names_realm a ≡ true → names_realm b ≡ false → bytes_eq a b ≡ false
not_equal a b realm other =
    elim (cases_Bool (bytes_eq a b)) [
      | inl yes' ↦ absurd (false≢true (sym other ∙ ap names_realm (sym ((bytes_eq-Decides a b).0 yes')) ∙ realm))
      | inr no' ↦ no'
    ]

pub same_by_key : (a b : List ℕ) → bytes_eq (operator_key a) (operator_key b) ≡ same_operator a b
same_by_key a b =
    elim (cases_Bool (names_realm a)) [
      | inl a_is ↦ elim (cases_Bool (names_realm b)) [
        | inl b_is ↦ rw (a_is, b_is) refl
        | inr b_isnt ↦ rw (a_is, b_isnt) (never_same a b a_is b_isnt ∙ sym (not_equal a b a_is b_isnt))
      ]
      | inr a_isnt ↦ elim (cases_Bool (names_realm b)) [
        | inl b_is ↦ rw (a_isnt, b_is)
            (same_both_ways a (str_to_ascii_lowercase b) ∙ never_same b a b_is a_isnt
            ∙ sym (same_both_ways a b ∙ not_equal b a b_is a_isnt))
        | inr b_isnt ↦ rw (a_isnt, b_isnt) refl
      ]
    ]

-- No peer has an Operator-Name of more than 253 octets.

key_length : (value : List ℕ) → length (operator_key value) ≡ length value
key_length value =
    elim (cases_Bool (names_realm value)) [
      | inl is ↦ rw is (length-map value to_ascii_lowercase)
      | inr isnt ↦ rw isnt refl
    ]

same_long : (a b : List ℕ) → length a ≤ 253 → 253 < length b → same_operator a b ≡ false
same_long a b short long =
    elim (cases_Bool (bytes_eq (operator_key a) (operator_key b))) [
      | inl yes' ↦ (
          let same = ap length ((bytes_eq-Decides (operator_key a) (operator_key b)).0 yes') in
          absurd (omega (arith, short, long, same, key_length a, key_length b)))
      | inr no' ↦ sym (same_by_key a b) ∙ no'
    ]

none_long : (value : List ℕ) → 253 < length value → (n : ℕ) (peers : List Peer) →
    position_from (λ (peer : PeerView). same_operator_if_there peer.operator_name (Some value)) n (map shown_peer peers)
    ≡ None
none_long value long n [] = refl
none_long value long n (p ∷ ps) =
    by_operator p.operator_name p.operator_name_length (none_long value long (n + 1) ps)
  where
    by_operator : (o : Option (String Global)) →
        ((s : String Global) → o ≡ Some s → (2 ≤ length (string_bytes s)) × (length (string_bytes s) ≤ 253)) →
        {rest : Option ℕ} → rest ≡ None →
        cond (same_operator_if_there (option_map string_bytes o) (Some value)) (Some n) rest ≡ None
    by_operator None bound none = none
    by_operator (Some s) bound none = rw (same_long (string_bytes s) value (bound s refl).1 long) none

pub no_long_operator : (peers : List Peer) (value : List ℕ) → 253 < length value →
    None ≡ peer_with_operator (map shown_peer peers) value
unfolding peer_with_operator
no_long_operator peers value long = sym (none_long value long 0 peers)
