-- The tests of addresses and prefixes decide what is said of them, and the longest prefix is the one that is found.
use Rattle.std.proofs.Common.{◌≡◌, ℕ, zero, suc, ◌+◌, ◌<◌, ◌≤◌, Bool, true, false, List, [], ◌∷◌, map, slice_get, length, Option, Some, None, option_map, Decides, refl, sym, ap, ◌∙◌, subst, arith, inl, inr, le-leb, leb-true}
use Rattle.std.proofs.Math.Bool.{beq}
use Rattle.std.proofs.lemmas.Bool.{cases_Bool, and_parts, false≢true}
use Rattle.std.proofs.lemmas.Bool.Decides.{Decides-like}
use Rattle.std.proofs.lemmas.Option.{same_Some, none-some, slice_get-map}
use Rattle.std.proofs.lemmas.Slice.Eq.{bytes_eq-Decides}
use Rattle.std.specs.List.{list_all, position_from}
use Rattle.std.specs.declared.net.ip_addr.IpAddr.{IpAddr}
use Rattle.std.specs.declared.net.ip_addr.IpAddr.TheVariants.{V4, V6}
use Rattle.std.specs.declared.net.ipv4_addr.Ipv4Addr.{Ipv4Addr}
use Rattle.std.specs.declared.net.ipv6_addr.Ipv6Addr.{Ipv6Addr}
use Rattle.std.specs.Net.Addr.{ipv4_octets, ipv6_segments, is_ipv6}
use Rattle.roam_address.specs.declared.address.Address.{Address}
use Rattle.roam_address.specs.declared.prefix.Prefix.{Prefix}
use Rattle.roam_address.specs.Addresses.{ip_of}
use Rattle.roam_address.specs.Bits.{leading}
use Rattle.roam_address.specs.Longest.{IsLongest, IsLongestMatch, HasTwice}
use Rattle.roam_address.specs.Prefixes.{PrefixView, network_of, length_of, leading_of, IsIn, shown_prefix}
use Rattle.roam_address.specs.Same.{same_address, is_in, is_no_longer, is_longest, longest_place}
use Rattle.roam_address.proofs.LongestLemmas.{key_eq, key_same, key_itself, same_key, in_by_key}

-- ## Addresses

v4_same : (a b : Ipv4Addr) → ipv4_octets a ≡ ipv4_octets b → a ≡ b
v4_same a b same = λ i. record { octets = same i }

v6_same : (a b : Ipv6Addr) → ipv6_segments a ≡ ipv6_segments b → a ≡ b
v6_same a b same = λ i. record { segments = same i }

-- the numbers that an address is made of
abbrev numbers : IpAddr → List ℕ
numbers (V4 a) = ipv4_octets a
numbers (V6 a) = ipv6_segments a

abbrev as_address : IpAddr → Address
as_address ip = record { ip = ip }

ips_decide : (a b : IpAddr) → Decides (same_address (as_address a) (as_address b)) (a ≡ b)
ips_decide (V4 a) (V4 b) =
    Decides-like _ (λ same. ap (λ (x : Ipv4Addr). V4 x) (v4_same a b same)) (λ same. ap numbers same)
    (bytes_eq-Decides (ipv4_octets a) (ipv4_octets b))
ips_decide (V4 a) (V6 b) = (λ h. absurd (false≢true h), λ e. cc)
ips_decide (V6 a) (V4 b) = (λ h. absurd (false≢true h), λ e. cc)
ips_decide (V6 a) (V6 b) =
    Decides-like _ (λ same. ap (λ (x : Ipv6Addr). V6 x) (v6_same a b same)) (λ same. ap numbers same)
    (bytes_eq-Decides (ipv6_segments a) (ipv6_segments b))

pub address_decides : (a b : Address) → Decides (same_address a b) (a ≡ b)
address_decides a b =
    Decides-like _ (λ same. λ i. record { ip = same i }) (λ same. ap (λ (x : Address). ip_of x) same)
    (ips_decide (ip_of a) (ip_of b))

-- ## Prefixes

pub in_decides : (p : Prefix) (a : Address) → Decides (is_in a (shown_prefix p)) (IsIn p a)
in_decides p a =
    let key = leading (length_of p) (ip_of a) in (
      λ is. in_by_key p a (key_same key (leading_of p) is),
      λ has. ap (key_eq key) (sym (same_key p a has)) ∙ key_itself key,
    )

-- an address of the other kind isn't in it
pub kinds_apart : (p : Prefix) (a : Address) →
    beq (is_ipv6 (ip_of a)) (is_ipv6 (ip_of (network_of p))) ≡ false → is_in a (shown_prefix p) ≡ false
kinds_apart p a apart = rw apart refl

-- ## The longest

-- a place at which the list has what passes, where nothing before it does
first_at : {X : Type 0} (test : X → Bool) (n : ℕ) (xs : List X) (i : ℕ) (x : X) → slice_get xs i ≡ Some x →
    test x ≡ true → ((k : ℕ) (y : X) → k < i → slice_get xs k ≡ Some y → test y ≡ false) →
    position_from test n xs ≡ Some (n + i)
first_at test n [] i x at passes none = absurd (none-some x at)
first_at test n (y ∷ ys) zero x at passes none =
    let here : test y ≡ true = ap test (same_Some y x at) ∙ passes in
    let same : n ≡ n + 0 = omega arith in
    rw here (ap (λ k. Some k) same)
first_at test n (y ∷ ys) (suc i) x at passes none =
    let no' : test y ≡ false = none 0 y (omega arith) refl in
    let rest = first_at test (n + 1) ys i x at passes
    (λ k z before there. none (suc k) z (omega (arith, before)) there) in
    let same : n + 1 + i ≡ n + suc i = omega arith in
    rw no' (rest ∙ ap (λ k. Some k) same)

none_at : {X : Type 0} (test : X → Bool) (n : ℕ) (xs : List X) →
    ((k : ℕ) (y : X) → slice_get xs k ≡ Some y → test y ≡ false) → position_from test n xs ≡ None
none_at test n [] none = refl
none_at test n (y ∷ ys) none =
    let no' : test y ≡ false = none 0 y refl in
    rw no' (none_at test (n + 1) ys (λ k z there. none (suc k) z there))

-- what each element of a list passes
all_true : {X : Type 0} (test : X → Bool) (xs : List X) →
    ((k : ℕ) (y : X) → slice_get xs k ≡ Some y → test y ≡ true) → list_all test xs ≡ true
all_true test [] each = refl
all_true test (y ∷ ys) each =
    let here : test y ≡ true = each 0 y refl in
    rw here (all_true test ys (λ k z there. each (suc k) z there))

all_at : {X : Type 0} (test : X → Bool) (xs : List X) (k : ℕ) (x : X) → list_all test xs ≡ true →
    slice_get xs k ≡ Some x → test x ≡ true
all_at test [] k x all at = absurd (none-some x at)
all_at test (y ∷ ys) zero x all at =
    ap test (sym (same_Some y x at)) ∙ (and_parts (test y) (list_all test ys) all).0
all_at test (y ∷ ys) (suc k) x all at = all_at test ys k x (and_parts (test y) (list_all test ys) all).1 at

-- a prefix as it is shown, by its place
shown_at : (prefixes : List Prefix) (k : ℕ) (v : PrefixView) → slice_get (map shown_prefix prefixes) k ≡ Some v →
    (p : Prefix) × (slice_get prefixes k ≡ Some p) × (shown_prefix p ≡ v)
shown_at [] k v at = absurd (none-some v at)
shown_at (p ∷ rest) zero v at = (p, refl, same_Some (shown_prefix p) v at)
shown_at (p ∷ rest) (suc k) v at = shown_at rest k v at

at_shown : (prefixes : List Prefix) (k : ℕ) (p : Prefix) → slice_get prefixes k ≡ Some p →
    slice_get (map shown_prefix prefixes) k ≡ Some (shown_prefix p)
at_shown prefixes k p at = slice_get-map shown_prefix prefixes k ∙ ap (option_map shown_prefix) at

module _ (prefixes : List Prefix) (a : Address) where
  fits_no_longer : (p : Prefix) (n : ℕ) → (IsIn p a → length_of p ≤ n) → is_no_longer a n (shown_prefix p) ≡ true
  fits_no_longer p n fits =
      elim (cases_Bool (is_in a (shown_prefix p))) [
        | inl yes' ↦ rw yes' (le-leb (length_of p) n (fits ((in_decides p a).0 yes')))
        | inr no' ↦ rw no' refl
      ]

  no_longer_fits : (p : Prefix) (n : ℕ) → is_no_longer a n (shown_prefix p) ≡ true → IsIn p a → length_of p ≤ n
  no_longer_fits p n is has = leb-true (length_of p) n (rw ((in_decides p a).1 has) at is)

  -- the longest passes the test
  longest_passes : (place : ℕ) (h : IsLongest prefixes a place) →
      is_longest (map shown_prefix prefixes) a (shown_prefix h.prefix) ≡ true
  longest_passes place h =
      let n = length_of h.prefix in
      let others = all_true (is_no_longer a n) (map shown_prefix prefixes) (λ k v at. (
      let found = shown_at prefixes k v at in
      subst (λ (w : PrefixView). is_no_longer a n w ≡ true) found.2
      (fits_no_longer found.0 n (h.longest k found.0 found.1)))) in
      rw ((in_decides h.prefix a).1 h.has) others

  -- what passes before it has the same bits
  passes_twice : (place : ℕ) (h : IsLongest prefixes a place) (k : ℕ) (p : Prefix) → k < place →
      slice_get prefixes k ≡ Some p → is_longest (map shown_prefix prefixes) a (shown_prefix p) ≡ true →
      HasTwice prefixes
  passes_twice place h k p before there passes =
      let n = length_of p in
      let parts = and_parts (is_in a (shown_prefix p)) (list_all (is_no_longer a n) (map shown_prefix prefixes))
      passes in
      let has = (in_decides p a).0 parts.0 in
      let other = all_at (is_no_longer a n) (map shown_prefix prefixes) place (shown_prefix h.prefix) parts.1
      (at_shown prefixes place h.prefix h.there) in
      let long : n ≡ length_of h.prefix =
      omega (arith, no_longer_fits h.prefix n other h.has, h.longest k p there has) in
      record {
        first = k;
        second = place;
        apart = before;
        one = p;
        other = h.prefix;
        one_there = there;
        other_there = h.there;
        same = sym (same_key p a has) ∙ ap (λ l. leading l (ip_of a)) long ∙ same_key h.prefix a h.has;
      }

-- among prefixes of which no two are the same, the longest is the one that is found
pub longest_is_place : (prefixes : List Prefix) (a : Address) (r : Option ℕ) → ¬ (HasTwice prefixes) →
    IsLongestMatch prefixes a r → r ≡ longest_place (map shown_prefix prefixes) a
unfolding longest_place
longest_is_place prefixes a None once none =
    let views = map shown_prefix prefixes in
    sym (none_at (is_longest views a) 0 views (λ k v at. (
    let found = shown_at prefixes k v at in
    elim (cases_Bool (is_in a v)) [
      | inl yes' ↦ absurd (none k found.0 found.1
          ((in_decides found.0 a).0 (subst (λ (w : PrefixView). is_in a w ≡ true) (sym found.2) yes')))
      | inr no' ↦ rw no' refl
    ])))
longest_is_place prefixes a (Some place) once h =
    let views = map shown_prefix prefixes in
    let at_start : place ≡ 0 + place = omega arith in
    ap (λ k. Some k) at_start
    ∙ sym (first_at (is_longest views a) 0 views place (shown_prefix h.prefix)
    (at_shown prefixes place h.prefix h.there)
    (longest_passes prefixes a place h) (λ k v before at. (
    let found = shown_at prefixes k v at in
    elim (cases_Bool (is_longest views a v)) [
      | inl yes' ↦ absurd (once (passes_twice prefixes a place h k found.0 before found.1
          (subst (λ (w : PrefixView). is_longest views a w ≡ true) (sym found.2) yes')))
      | inr no' ↦ no'
    ])))

-- ## Lists without two that are the same

-- of a place the prefix that is found is one of the list
pub place_within : (prefixes : List PrefixView) (a : Address) (n : ℕ) (rest : List PrefixView) (i : ℕ) →
    position_from (is_longest prefixes a) n rest ≡ Some i → i < n + length rest
place_within prefixes a n [] i is = cc
place_within prefixes a n (x ∷ xs) i is =
    elim (cases_Bool (is_longest prefixes a x)) [
      | inl yes' ↦ (let same : Some n ≡ Some i = rw yes' at is in omega (arith, same_Some n i same))
      | inr no' ↦ (let rest : position_from (is_longest prefixes a) (n + 1) xs ≡ Some i = rw no' at is in
          omega (arith, place_within prefixes a (n + 1) xs i rest))
    ]
