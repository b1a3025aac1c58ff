-- The laws of the look-up of NAS-Identifiers.
use Rattle.std.proofs.Common.{◌≡◌, ◌≢◌, ℕ, ◌<◌, ◌≤◌, zero, suc, List, [], ◌∷◌, length, map, take, drop, Option, Some, None, refl, sym, ap, ◌∙◌, inl, inr, arith}
use Rattle.std.proofs.lemmas.Bool.{cases_eq}
use Rattle.std.proofs.lemmas.List.{length-append, length-take-le, take-append-drop, take_at}
use Rattle.std.specs.Option.{option_or}
use Rattle.roam_conf.specs.Config.{PeerView}
use Rattle.roam_conf.specs.Lookup.{first_answer}
use Rattle.roam_conf.specs.Targets.{NasPattern, exactly, begins, fronts, fronts_to, BeginsWith, peer_with_nas, peer_meant}

module _ (f : NasPattern → Option ℕ) (name front : List ℕ) (i : ℕ) (within : BeginsWith name front)
    (found : f (begins front) ≡ Some i) (none : (longer : List ℕ) → BeginsWith name longer →
    length front < length longer → f (begins longer) ≡ None) where
  -- the front itself
  at_front : (n : ℕ) → length front ≡ suc n → first_answer f (map begins (fronts_to (suc n) name)) ≡ Some i
  at_front n size =
      let here : take (suc n) name ≡ front = ap (take (suc n)) within.2 ∙ take_at front within.0 (suc n) size in
      ap (λ l. option_or (f (begins l)) (first_answer f (map begins (fronts_to n name)))) here
      ∙ ap (λ o. option_or o (first_answer f (map begins (fronts_to n name)))) found

  -- a longer one is nobody's
  above_front : (n : ℕ) → length front < suc n → suc n ≤ length name → f (begins (take (suc n) name)) ≡ None
  above_front n above small =
      let size : length (take (suc n) name) ≡ suc n = length-take-le (suc n) name small in
      let some : take (suc n) name ≢ [] = λ empty. let zero_long = ap length empty in omega (arith, size, zero_long) in
      none (take (suc n) name) (drop (suc n) name, some, sym (take-append-drop (suc n) name))
      (omega (arith, size, above))

  from_longest : (n : ℕ) → length front ≤ n → n ≤ length name →
      first_answer f (map begins (fronts_to n name)) ≡ Some i
  from_longest zero small big = absurd (within.1 (empty front small))
    where
      empty : (l : List ℕ) → length l ≤ zero → l ≡ []
      empty [] small = refl
      empty (x ∷ xs) small = absurd (omega arith)
  from_longest (suc n) small big =
      elim (cases_eq (length front) (suc n)) [
        | inl size ↦ at_front n size
        | inr other ↦ (
            let above : length front < suc n = omega (arith, small, other) in
            ap (λ o. option_or o (first_answer f (map begins (fronts_to n name)))) (above_front n above big)
            ∙ from_longest n (omega (arith, above)) (omega (arith, big)))
      ]

  longest : first_answer f (map begins (fronts name)) ≡ Some i
  longest =
      let size : length front ≤ length name = omega (arith, ap length within.2, length-append front within.0) in
      from_longest (length name) size (omega arith)

pub whole_first : (peers : List PeerView) (name : List ℕ) (i : ℕ) → peer_with_nas peers (exactly name) ≡ Some i →
    peer_meant peers name ≡ Some i
unfolding peer_meant
whole_first peers name i is =
    ap (λ o. option_or o (first_answer (peer_with_nas peers) (map begins (fronts name)))) is

pub longest_front : (peers : List PeerView) (name front : List ℕ) (i : ℕ) → peer_with_nas peers (exactly name) ≡ None →
    BeginsWith name front → peer_with_nas peers (begins front) ≡ Some i →
    ((longer : List ℕ) → BeginsWith name longer → length front < length longer →
    peer_with_nas peers (begins longer) ≡ None) → peer_meant peers name ≡ Some i
unfolding peer_meant
longest_front peers name front i unnamed within found none =
    ap (λ o. option_or o (first_answer (peer_with_nas peers) (map begins (fronts name)))) unnamed
    ∙ longest (peer_with_nas peers) name front i within found none
