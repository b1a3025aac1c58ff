-- Where each peer keeps its prefixes, whatever their order, and none is new, each source is whose it was.
use Rattle.std.proofs.Common.{◌≡◌, ℕ, suc, ◌+◌, ◌&&◌, ◌||◌, ◌==◌, Bool, true, false, not, cond, List, [], ◌∷◌, ◌++◌, filter, length, map, drop, get_or, Option, Some, refl, sym, ap, ◌∙◌, slice_get, inl, inr, arith}
use Rattle.std.proofs.lemmas.Bool.{and_parts, cases_Bool, false≢true}
use Rattle.std.specs.List.{flat_map, list_all, list_any, position_from}
use Rattle.std.specs.Option.{option_map_or}
use Rattle.std.specs.Prelude.{nat_le}
use Rattle.roam_address.specs.declared.address.Address.{Address}
use Rattle.roam_address.specs.declared.leading.Leading.{Leading}
use Rattle.roam_address.specs.Addresses.{ip_of}
use Rattle.roam_address.specs.Bits.{leading}
use Rattle.roam_address.specs.Prefixes.{PrefixView}
use Rattle.roam_address.specs.Same.{bits_of, is_in, is_longest, is_no_longer, same_prefix}
use Rattle.roam_address.proofs.LongestLemmas.{key_eq, key_same}
use Rattle.roam_conf.specs.Config.{PeerView}
use Rattle.roam_conf.specs.Duplicates.{is_present, prefixes_of, prefixes_present}
use Rattle.roam_conf.specs.Lookup.{peer_with_ip}
use Rattle.roam_reload.specs.Kept.{KeepsSources, are_among, same_prefixes}
use Rattle.roam_reload.specs.Reload.{KeepsPeers, peer_part}

-- ---- tests of equal prefixes, and of the same prefixes in another order

-- the test only looks at a prefix's bits
abbrev OfBits : (PrefixView → Bool) → Type 0
OfBits test = (a b : PrefixView) → bits_of a ≡ bits_of b → test a ≡ test b

both_ways : (a b : Bool) → (a ≡ true → b ≡ true) → (b ≡ true → a ≡ true) → a ≡ b
both_ways true b there back = sym (there refl)
both_ways false true there back = back refl
both_ways false false there back = refl

or_left : (a b : Bool) → a ≡ true → (a || b) ≡ true
or_left true b is = refl
or_left false b is = absurd (false≢true is)

or_right : (a b : Bool) → b ≡ true → (a || b) ≡ true
or_right true b is = refl
or_right false b is = is

both_true : (a b : Bool) → a ≡ true → b ≡ true → (a && b) ≡ true
both_true true b one other = other
both_true false b one other = absurd (false≢true one)

module _ (test : PrefixView → Bool) (of_bits : OfBits test) where
  -- one that is the same as one of these
  alike_all : (x : PrefixView) (ys : List PrefixView) → list_any (same_prefix x) ys ≡ true → list_all test ys ≡ true →
      test x ≡ true
  alike_all x [] any' all = absurd (false≢true any')
  alike_all x (y ∷ ys) any' all =
      let parts = and_parts (test y) (list_all test ys) all in
      elim (cases_Bool (same_prefix x y)) [
        | inl yes' ↦ of_bits x y (key_same (bits_of x) (bits_of y) yes') ∙ parts.0
        | inr no' ↦ alike_all x ys (rw no' at any') parts.1
      ]

  alike_any : (x : PrefixView) (ys : List PrefixView) → list_any (same_prefix x) ys ≡ true → test x ≡ true →
      list_any test ys ≡ true
  alike_any x [] any' passes = absurd (false≢true any')
  alike_any x (y ∷ ys) any' passes =
      elim (cases_Bool (same_prefix x y)) [
        | inl yes' ↦ or_left (test y) (list_any test ys)
            (sym (of_bits x y (key_same (bits_of x) (bits_of y) yes')) ∙ passes)
        | inr no' ↦ or_right (test y) (list_any test ys) (alike_any x ys (rw no' at any') passes)
      ]

  all_among : (xs ys : List PrefixView) → are_among ys xs ≡ true → list_all test ys ≡ true → list_all test xs ≡ true
  all_among [] ys among all = refl
  all_among (x ∷ xs) ys among all =
      let parts = and_parts (list_any (same_prefix x) ys) (are_among ys xs) among in
      both_true (test x) (list_all test xs) (alike_all x ys parts.0 all) (all_among xs ys parts.1 all)

  any_among : (xs ys : List PrefixView) → are_among ys xs ≡ true → list_any test xs ≡ true → list_any test ys ≡ true
  any_among [] ys among any' = absurd (false≢true any')
  any_among (x ∷ xs) ys among any' =
      let parts = and_parts (list_any (same_prefix x) ys) (are_among ys xs) among in
      elim (cases_Bool (test x)) [
        | inl yes' ↦ alike_any x ys parts.0 yes'
        | inr no' ↦ any_among xs ys parts.1 (rw no' at any')
      ]

  all_same : (xs ys : List PrefixView) → same_prefixes xs ys ≡ true → list_all test xs ≡ list_all test ys
  all_same xs ys same =
      let parts = and_parts (are_among ys xs) (are_among xs ys) same in
      both_ways (list_all test xs) (list_all test ys) (all_among ys xs parts.1) (all_among xs ys parts.0)

  any_same : (xs ys : List PrefixView) → same_prefixes xs ys ≡ true → list_any test xs ≡ list_any test ys
  any_same xs ys same =
      let parts = and_parts (are_among ys xs) (are_among xs ys) same in
      both_ways (list_any test xs) (list_any test ys) (any_among xs ys parts.0) (any_among ys xs parts.1)

-- ---- the tests of the look-up

no_longer_of_bits : (ip : Address) (n : ℕ) → OfBits (is_no_longer ip n)
no_longer_of_bits ip n a b same =
    ap (λ (k : Leading). not (key_eq (leading k.length (ip_of ip)) k) || nat_le k.length n) same

longest_of_bits : (prefixes : List PrefixView) (ip : Address) → OfBits (is_longest prefixes ip)
longest_of_bits prefixes ip a b same =
    ap (λ (k : Leading). key_eq (leading k.length (ip_of ip)) k && list_all (is_no_longer ip k.length) prefixes) same

-- ---- peers that are here in both, with the same prefixes

abbrev AreSame : List PeerView → List PeerView → Type 0
AreSame [] [] = Unit {0}
AreSame (a ∷ old) (b ∷ new) = (b.gone ≡ a.gone) × (same_prefixes a.ips b.ips ≡ true) × AreSame old new
AreSame _ _ = ⊥

are_same : (old new more : List PeerView) → map peer_part new ≡ map peer_part old ++ more →
    length new ≡ length old → ((peer : ℕ) (a b : PeerView) → slice_get old peer ≡ Some a → slice_get new peer ≡ Some b
    → same_prefixes a.ips b.ips ≡ true) → AreSame old new
are_same [] [] more same count ips = tt
are_same [] (b ∷ new) more same count ips = absurd (omega (arith, count))
are_same (a ∷ old) [] more same count ips = absurd (omega (arith, count))
are_same (a ∷ old) (b ∷ new) more same count ips =
    let heads : peer_part b ≡ peer_part a = ap (λ (ps : List PeerView). get_or ps 0 (peer_part a)) same in (
      ap (λ (p : PeerView). p.gone) heads,
      ips 0 a b refl refl,
      are_same old new more (ap (λ (ps : List PeerView). drop 1 ps) same) (omega (arith, count))
          (λ peer x y was is. ips (suc peer) x y was is),
    )

module _ (test : PrefixView → Bool) where
  all_joined : (xs ys : List PrefixView) → list_all test (xs ++ ys) ≡ (list_all test xs && list_all test ys)
  all_joined [] ys = refl
  all_joined (x ∷ xs) ys = by_first (test x) (all_joined xs ys)
    where
      by_first : (b : Bool) → list_all test (xs ++ ys) ≡ (list_all test xs && list_all test ys) →
          (b && list_all test (xs ++ ys)) ≡ ((b && list_all test xs) && list_all test ys)
      by_first true rest = rest
      by_first false rest = refl

  all_present : OfBits test → (old new : List PeerView) → AreSame old new →
      list_all test (prefixes_present old) ≡ list_all test (prefixes_present new)
  all_present of_bits [] [] same = refl
  all_present of_bits [] (b ∷ new) same = absurd same
  all_present of_bits (a ∷ old) [] same = absurd same
  all_present of_bits (a ∷ old) (b ∷ new) same =
      by_gone a.gone b.gone same.0 (all_present of_bits old new same.2)
    where
      by_gone : (g h : Bool) → h ≡ g →
          list_all test (prefixes_present old) ≡ list_all test (prefixes_present new) →
          list_all test (flat_map prefixes_of (cond (not g) (a ∷ filter is_present old) (filter is_present old)))
          ≡ list_all test (flat_map prefixes_of (cond (not h) (b ∷ filter is_present new) (filter is_present new)))
      by_gone true true is rest = rest
      by_gone true false is rest = absurd (false≢true is)
      by_gone false true is rest = absurd (false≢true (sym is))
      by_gone false false is rest =
          all_joined a.ips (prefixes_present old)
          ∙ ap (λ (x : Bool). x && list_all test (prefixes_present old)) (all_same test of_bits a.ips b.ips same.1)
          ∙ ap (λ (x : Bool). list_all test b.ips && x) rest ∙ sym (all_joined b.ips (prefixes_present new))

-- the place of the first peer that is here and of whose prefixes one passes
place_same : (test : PrefixView → Bool) → OfBits test → (n : ℕ) (old new : List PeerView) → AreSame old new →
    position_from (λ (peer : PeerView). is_present peer && list_any test peer.ips) n old
    ≡ position_from (λ (peer : PeerView). is_present peer && list_any test peer.ips) n new
place_same test of_bits n [] [] same = refl
place_same test of_bits n [] (b ∷ new) same = absurd same
place_same test of_bits n (a ∷ old) [] same = absurd same
place_same test of_bits n (a ∷ old) (b ∷ new) same =
    let here : (is_present a && list_any test a.ips) ≡ (is_present b && list_any test b.ips) =
    ap (λ (x : Bool). not x && list_any test a.ips) (sym same.0)
    ∙ ap (λ (x : Bool). not b.gone && x) (any_same test of_bits a.ips b.ips same.1) in
    ap (λ (x : Bool). cond x (Some n)
    (position_from (λ (peer : PeerView). is_present peer && list_any test peer.ips) (n + 1) old)) here
    ∙ ap (cond (is_present b && list_any test b.ips) (Some n)) (place_same test of_bits (n + 1) old new same.2)

-- the same prefix is the longest
longest_same : (old new : List PeerView) → AreSame old new → (ip : Address) →
    is_longest (prefixes_present old) ip ≡ is_longest (prefixes_present new) ip
longest_same old new same ip = λ i. λ prefix.
    (ap (λ (x : Bool). is_in ip prefix && x)
    (all_present (is_no_longer ip prefix.length) (no_longer_of_bits ip prefix.length) old new same)) i

found_same : (old new : List PeerView) → AreSame old new → (ip : Address) → peer_with_ip old ip ≡ peer_with_ip new ip
unfolding peer_with_ip
found_same old new same ip =
    place_same (is_longest (prefixes_present old) ip) (longest_of_bits (prefixes_present old) ip) 0 old new same
    ∙ ap (λ (test : PrefixView → Bool).
    position_from (λ (peer : PeerView). is_present peer && list_any test peer.ips) 0 new) (longest_same old new same ip)

-- each source is whose it was, where no peer is new
pub sources_stay : (old new : List PeerView) → KeepsPeers old new → length new ≡ length old → KeepsSources old new
sources_stay old new k count peer ip was =
    let same = are_same old new k.more k.same count k.ips in
    ap (λ (o : Option ℕ). option_map_or (λ found. found == peer) o false) (sym (found_same old new same ip)) ∙ was
