-- The index of peers finds the peer that the look-up says, since no two prefixes of those that are here are the same.
use Rattle.std.proofs.Common.{◌≡◌, ℕ, zero, suc, ◌+◌, ◌<◌, ◌&&◌, ◌||◌, Bool, true, false, not, cond, inl, inr, List, [], ◌∷◌, ◌++◌, filter, length, map, replicate, Option, Some, None, Result, Ok, Err, IfOk, MatchOption, option_map, refl, sym, subst, ap, ◌∙◌, arith}
use Rattle.std.proofs.lemmas.Bool.{cases_Bool, false≢true, or_parts}
use Rattle.std.proofs.lemmas.List.{length-map, map-append}
use Rattle.std.proofs.lemmas.Option.{same_Some, none-some, slice_get-map}
use Rattle.std.specs.List.{flat_map, list_any, position_from, slice_get}
use Rattle.std.specs.Option.{option_and_then}
use Rattle.std.specs.Prelude.{if◌then◌else◌}
use Rattle.std.specs.Str.{bytes_eq}
use Rattle.roam_address.specs.declared.address.Address.{Address}
use Rattle.roam_address.specs.declared.prefix.Prefix.{Prefix}
use Rattle.roam_address.specs.declared.prefix_index.PrefixIndex.{PrefixIndex}
use Rattle.roam_address.specs.Longest.{IsLongestMatch, HasTwice}
use Rattle.roam_address.specs.Prefixes.{PrefixView, leading_of, shown_prefix}
use Rattle.roam_address.specs.Same.{is_longest, longest_place, same_prefix}
use Rattle.roam_address.specs.Stands.{StandsFor}
use Rattle.roam_address.proofs.LongestLemmas.{key_eq, key_itself, key_same}
use Rattle.roam_address.proofs.SameLemmas.{longest_is_place}
use Rattle.roam_conf.specs.declared.peer.Peer.{Peer}
use Rattle.roam_conf.specs.Config.{PeerView}
use Rattle.roam_conf.specs.Duplicates.{has_pair, same_peer, nas_texts, has_duplicate_peer, has_duplicate_prefix, is_present, prefixes_of, prefixes_present}
use Rattle.roam_conf.specs.Lookup.{peer_with_ip}
use Rattle.roam_conf.specs.Parts.{shown_peer}
use Rattle.roam_conf.specs.PeerIndex.{is_peer_present, peer_prefixes, places_in, prefixes_in}
use Rattle.roam_conf.proofs.OneLinkLemmas.{none_passes}

-- two places of a list of which no two elements pass a test
pair_apart : {X : Type 0} (same : X → X → Bool) (xs : List X) (i j : ℕ) (x y : X) → has_pair same xs ≡ false →
    i < j → slice_get xs i ≡ Some x → slice_get xs j ≡ Some y → same x y ≡ false
pair_apart same [] i j x y once before at there = absurd (none-some x at)
pair_apart same (z ∷ zs) zero zero x y once before at there = absurd (omega (arith, before))
pair_apart same (z ∷ zs) zero (suc j) x y once before at there =
    rw (← same_Some z x at)
    (none_passes (same z) zs j y (or_parts (list_any (same z) zs) (has_pair same zs) once).0 there)
pair_apart same (z ∷ zs) (suc i) zero x y once before at there = absurd (omega (arith, before))
pair_apart same (z ∷ zs) (suc i) (suc j) x y once before at there =
    pair_apart same zs i j x y (or_parts (list_any (same z) zs) (has_pair same zs) once).1 (omega (arith, before)) at
    there

-- ---- two that are the same

-- two that are the same are a pair
pair_of_twice : (prefixes : List Prefix) → HasTwice prefixes →
    has_pair same_prefix (map shown_prefix prefixes) ≡ true
pair_of_twice prefixes twice =
    elim (cases_Bool (has_pair same_prefix (map shown_prefix prefixes))) [
      | inl yes' ↦ yes'
      | inr no' ↦ (
          let one = slice_get-map shown_prefix prefixes twice.first ∙ ap (option_map shown_prefix) twice.one_there in
          let other = slice_get-map shown_prefix prefixes twice.second
          ∙ ap (option_map shown_prefix) twice.other_there in
          let apart : same_prefix (shown_prefix twice.one) (shown_prefix twice.other) ≡ false =
          pair_apart same_prefix (map shown_prefix prefixes) twice.first twice.second (shown_prefix twice.one)
          (shown_prefix twice.other) no' twice.apart one other in
          let key = leading_of twice.one in
          absurd (false≢true (sym apart ∙ ap (key_eq key) (sym twice.same) ∙ key_itself key)))
    ]

-- one of some prefixes that is the same as this one
record SameAmong (p : Prefix) (prefixes : List Prefix) : Type 0 where
  place : ℕ
  other : Prefix
  there : slice_get prefixes place ≡ Some other
  same : leading_of p ≡ leading_of other

same_among : (p : Prefix) (prefixes : List Prefix) →
    list_any (same_prefix (shown_prefix p)) (map shown_prefix prefixes) ≡ true → SameAmong p prefixes
same_among p [] any' = absurd (false≢true any')
same_among p (q ∷ qs) any' =
    elim (cases_Bool (same_prefix (shown_prefix p) (shown_prefix q))) as (λ _. SameAmong p (q ∷ qs)) [
      | inl yes' ↦ record { place = 0; other = q; there = refl; same = key_same (leading_of p) (leading_of q) yes' }
      | inr no' ↦ (let later = same_among p qs (rw no' at any') in
          record { place = suc later.place; other = later.other; there = later.there; same = later.same })
    ]

twice_of_pair : (prefixes : List Prefix) → has_pair same_prefix (map shown_prefix prefixes) ≡ true → HasTwice prefixes
twice_of_pair [] pair = absurd (false≢true pair)
twice_of_pair (p ∷ ps) pair =
    elim (cases_Bool (list_any (same_prefix (shown_prefix p)) (map shown_prefix ps))) as (λ _. HasTwice (p ∷ ps)) [
      | inl yes' ↦ (let found = same_among p ps yes' in
          record {
            first = 0;
            second = suc found.place;
            apart = omega arith;
            one = p;
            other = found.other;
            one_there = refl;
            other_there = found.there;
            same = found.same;
          })
      | inr no' ↦ (let later = twice_of_pair ps (rw no' at pair) in
          record {
            first = suc later.first;
            second = suc later.second;
            apart = omega (arith, later.apart);
            one = later.one;
            other = later.other;
            one_there = later.one_there;
            other_there = later.other_there;
            same = later.same;
          })
    ]

-- ---- those that are here

abbrev present : List Peer → List Peer
present peers = filter is_peer_present peers

-- the prefixes of one peer more, if it is here
prefixes_shown : (peers : List Peer) → map shown_prefix (prefixes_in peers) ≡ prefixes_present (map shown_peer peers)
prefixes_shown [] = refl
prefixes_shown (p ∷ ps) = by_gone p.gone (prefixes_shown ps)
  where
    by_gone : (gone : Bool) → map shown_prefix (prefixes_in ps) ≡ prefixes_present (map shown_peer ps) →
        map shown_prefix (flat_map peer_prefixes (cond (not gone) (p ∷ present ps) (present ps)))
        ≡ flat_map prefixes_of (cond (not gone) (shown_peer p ∷ filter is_present (map shown_peer ps))
        (filter is_present (map shown_peer ps)))
    by_gone true rest = rest
    by_gone false rest =
        map-append shown_prefix p.ips.items (flat_map peer_prefixes (present ps))
        ∙ ap (λ (l : List PrefixView). map shown_prefix p.ips.items ++ l) rest

-- ---- no two are the same

same_test : (peers : List Peer) → has_duplicate_prefix (map shown_peer peers)
    ≡ has_pair same_prefix (map shown_prefix (prefixes_in peers))
same_test peers = ap (has_pair same_prefix) (sym (prefixes_shown peers))

-- what the index of some prefixes says of the peers whose they are
pub index_or_none : {A E : Type 0} (peers : List Peer) (prefixes : List Prefix)
    (made : Result (Option (PrefixIndex A)) E) →
    prefixes ≡ prefixes_in peers →
    IfOk made (λ index. MatchOption index (HasTwice prefixes)
    (λ i. StandsFor i prefixes × (¬ (HasTwice prefixes)))) →
    IfOk made (λ index. MatchOption index (has_duplicate_prefix (map shown_peer peers) ≡ true)
    (λ i. StandsFor i (prefixes_in peers) × (has_duplicate_prefix (map shown_peer peers) ≡ false)))
index_or_none peers prefixes (Err e) are h = h
index_or_none peers prefixes (Ok None) are twice =
    same_test peers ∙ pair_of_twice (prefixes_in peers) (subst HasTwice are twice)
index_or_none peers prefixes (Ok (Some i)) are h = (
  h.0 ∙ ap (map leading_of) are,
  elim (cases_Bool (has_pair same_prefix (map shown_prefix (prefixes_in peers)))) [
    | inl yes' ↦ absurd (h.1 (subst HasTwice (sym are) (twice_of_pair (prefixes_in peers) yes')))
    | inr no' ↦ same_test peers ∙ no'
  ],
)

-- peers that aren't duplicates have no two prefixes that are the same
prefixes_distinct : (peers : List PeerView) → has_duplicate_peer peers ≡ false → has_duplicate_prefix peers ≡ false
unfolding has_duplicate_peer
prefixes_distinct peers distinct =
    let before = (or_parts (has_pair same_peer peers || has_duplicate_prefix peers)
    (has_pair bytes_eq (nas_texts peers)) distinct).0 in
    (or_parts (has_pair same_peer peers) (has_duplicate_prefix peers) before).1

pub not_twice : (peers : List PeerView) → has_duplicate_peer peers ≡ false → has_duplicate_prefix peers ≡ true → ⊥
not_twice peers distinct twice = false≢true (sym (prefixes_distinct peers distinct) ∙ twice)

no_twice : (peers : List Peer) → has_duplicate_peer (map shown_peer peers) ≡ false → ¬ (HasTwice (prefixes_in peers))
no_twice peers distinct twice =
    false≢true (sym (prefixes_distinct (map shown_peer peers) distinct)
    ∙ same_test peers ∙ pair_of_twice (prefixes_in peers) twice)

-- ---- the peer whose prefix is found

module _ (test : PrefixView → Bool) where
  -- counted from one more
  shift : (n : ℕ) (xs : List PrefixView) →
      position_from test (n + 1) xs ≡ option_map (λ k. suc k) (position_from test n xs)
  shift n [] = refl
  shift n (x ∷ xs) =
      let next : n + 1 ≡ suc n = omega arith in
      elim (cases_Bool (test x)) [
        | inl yes' ↦ rw yes' (ap (λ (k : ℕ). Some k) next)
        | inr no' ↦ rw no' (shift (n + 1) xs)
      ]

  behind : (i : ℕ) (places : List ℕ) (found : Option ℕ) →
      option_and_then (slice_get (i ∷ places)) (option_map (λ k. suc k) found)
      ≡ option_and_then (slice_get places) found
  behind i places None = refl
  behind i places (Some k) = refl

  -- the place of one of some prefixes, each of one peer, or of one behind them
  of_one : (n : ℕ) (own others : List PrefixView) (places : List ℕ) →
      option_and_then (slice_get (replicate (length own) n ++ places)) (position_from test 0 (own ++ others))
      ≡ cond (list_any test own) (Some n) (option_and_then (slice_get places) (position_from test 0 others))
  of_one n [] others places = refl
  of_one n (x ∷ xs) others places =
      elim (cases_Bool (test x)) [
        | inl yes' ↦ rw yes' refl
        | inr no' ↦ rw no' (ap (option_and_then (slice_get (n ∷ replicate (length xs) n ++ places)))
            (shift 0 (xs ++ others))
            ∙ behind n (replicate (length xs) n ++ places) (position_from test 0 (xs ++ others))
            ∙ of_one n xs others places)
      ]

  -- the index of the first such peer
  placed : (n : ℕ) (peers : List Peer) →
      option_and_then (slice_get (places_in n peers)) (position_from test 0 (map shown_prefix (prefixes_in peers)))
      ≡ position_from (λ (peer : PeerView). is_present peer && list_any test peer.ips) n (map shown_peer peers)
  placed n [] = refl
  placed n (p ∷ ps) =
      by_gone (places_in (n + 1) ps) (present ps)
      (position_from (λ (peer : PeerView). is_present peer && list_any test peer.ips) (n + 1) (map shown_peer ps))
      p.gone (placed (n + 1) ps)
    where
      by_gone : (others : List ℕ) (here : List Peer) (later : Option ℕ) (gone : Bool) →
          option_and_then (slice_get others) (position_from test 0 (map shown_prefix (flat_map peer_prefixes here)))
          ≡ later →
          option_and_then
          (slice_get (if gone then others else replicate (length p.ips.items) n ++ others))
          (position_from test 0 (map shown_prefix (flat_map peer_prefixes (cond (not gone) (p ∷ here) here))))
          ≡ cond (not gone && list_any test (map shown_prefix p.ips.items)) (Some n) later
      by_gone others here later true rest = rest
      by_gone others here later false rest =
          let own = map shown_prefix p.ips.items in
          let all = flat_map peer_prefixes here in
          let split : map shown_prefix (p.ips.items ++ all) ≡ own ++ map shown_prefix all =
          map-append shown_prefix p.ips.items all in
          let many : length p.ips.items ≡ length own = sym (length-map p.ips.items shown_prefix) in
          ap (λ (l : List PrefixView). option_and_then (slice_get (replicate (length p.ips.items) n ++ others))
          (position_from test 0 l)) split
          ∙ ap (λ (k : ℕ). option_and_then (slice_get (replicate k n ++ others))
          (position_from test 0 (own ++ map shown_prefix all))) many
          ∙ of_one n own (map shown_prefix all) others
          ∙ ap (cond (list_any test own) (Some n)) rest

pub longest_peer : (peers : List Peer) (ip : Address) (found : Option ℕ) →
    has_duplicate_peer (map shown_peer peers) ≡ false → IsLongestMatch (prefixes_in peers) ip found →
    option_and_then (slice_get (places_in 0 peers)) found ≡ peer_with_ip (map shown_peer peers) ip
unfolding peer_with_ip longest_place
longest_peer peers ip found distinct longest =
    let prefixes = map shown_prefix (prefixes_in peers) in
    let views = map shown_peer peers in
    let at : found ≡ position_from (is_longest prefixes ip) 0 prefixes =
    longest_is_place (prefixes_in peers) ip found (no_twice peers distinct) longest in
    let same : found ≡ position_from (is_longest (prefixes_present views) ip) 0 prefixes =
    at ∙ ap (λ (l : List PrefixView). position_from (is_longest l ip) 0 prefixes) (prefixes_shown peers) in
    ap (option_and_then (slice_get (places_in 0 peers))) same
    ∙ placed (is_longest (prefixes_present views) ip) 0 peers
