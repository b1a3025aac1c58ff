-- What an index of prefixes finds.
use Rattle.std.proofs.Common.{◌≡◌, ◌≢◌, ℕ, zero, suc, ◌-◌, ◌/◌, ◌%◌, ◌<◌, ◌≤◌, ◌^◌, Bool, true, false, cond, eqb, ◌&&◌, List, [], ◌∷◌, map, length, get_or, slice_get, position, Some, None, option_map, refl, sym, ap, ◌∙◌, subst, arith, inl, inr, true≢false, eq-eqb, eqb-true, lt-ltb}
use Rattle.std.proofs.Math.Bool.{beq}
use Rattle.std.proofs.lemmas.Bool.{cases_lt, and_parts}
use Rattle.std.proofs.lemmas.List.Quantifiers.{position-Some}
use Rattle.std.proofs.lemmas.Option.{same_Some, none-some, slice_get-map, slice_get_within, get_or_from_slice_get, slice_get-get_or}
use Rattle.std.proofs.lemmas.List.Sums.{fails_before_first}
use Rattle.std.specs.List.{position_or_len}
use Rattle.std.specs.declared.net.ip_addr.IpAddr.{IpAddr}
use Rattle.std.specs.declared.net.ip_addr.IpAddr.TheVariants.{V4, V6}
use Rattle.std.specs.Net.Addr.{is_ipv6}
use Rattle.roam_address.specs.contracts.leading.LeadingPartialEq.TheImpl as leadings
use Rattle.roam_address.specs.declared.address.Address.{Address}
use Rattle.roam_address.specs.declared.leading.Leading.{Leading}
use Rattle.roam_address.specs.declared.prefix.Prefix.{Prefix}
use Rattle.roam_address.specs.Addresses.{ip_of}
use Rattle.roam_address.specs.Bits.{width, number, bit, leading}
use Rattle.roam_address.specs.Longest.{IsLongest, NoneHas}
use Rattle.roam_address.specs.Prefixes.{network_of, length_of, leading_of, IsIn}
use Rattle.roam_address.proofs.BitLemmas.{bit_at, equal_bits, each_bit}

-- ## Keys

abbrev pub key_eq : Leading → Leading → Bool
key_eq a b = (leadings.ghosts).eq a b

beq_same : (a b : Bool) → beq a b ≡ true → a ≡ b
beq_same true true equal = refl
beq_same true false equal = sym equal
beq_same false true equal = equal
beq_same false false equal = refl

beq_itself : (a : Bool) → beq a a ≡ true
beq_itself true = refl
beq_itself false = refl

pub key_same : (a b : Leading) → key_eq a b ≡ true → a ≡ b
key_same a b equal =
    let rest = eqb a.length b.length && eqb a.bits b.bits in
    let kind = beq_same a.is_ipv6 b.is_ipv6 (and_parts (beq a.is_ipv6 b.is_ipv6) rest equal).0 in
    let numbers = (and_parts (beq a.is_ipv6 b.is_ipv6) rest equal).1 in
    let length = eqb-true a.length b.length (and_parts (eqb a.length b.length) (eqb a.bits b.bits) numbers).0 in
    let bits = eqb-true a.bits b.bits (and_parts (eqb a.length b.length) (eqb a.bits b.bits) numbers).1 in
    λ i. record { is_ipv6 = kind i; length = length i; bits = bits i }

pub key_itself : (a : Leading) → key_eq a a ≡ true
key_itself a = rw (beq_itself a.is_ipv6, eq-eqb a.length a.length refl, eq-eqb a.bits a.bits refl)

-- ## An address is in a prefix just where their leftmost bits are the same

widths : (x y : IpAddr) → is_ipv6 x ≡ is_ipv6 y → width x ≡ width y
widths (V4 a) (V4 b) same = refl
widths (V4 a) (V6 b) same = absurd (true≢false (sym same))
widths (V6 a) (V4 b) same = absurd (true≢false same)
widths (V6 a) (V6 b) same = refl

pub same_key : (p : Prefix) (a : Address) → IsIn p a → leading (length_of p) (ip_of a) ≡ leading_of p
same_key p a h =
    let n = ip_of (network_of p) in
    let l = length_of p in
    let wide : width (ip_of a) ≡ width n = widths (ip_of a) n h.kind in
    let each : (k : ℕ) → k < l → bit_at (width n) (number (ip_of a)) k ≡ bit_at (width n) (number n) k =
    subst (λ (w : ℕ). (k : ℕ) → k < l → bit_at w (number (ip_of a)) k ≡ bit n k) wide h.bits in
    let bits = equal_bits (width n) (number (ip_of a)) (number n) l p.fits each in
    let same : number (ip_of a) / 2 ^ (width (ip_of a) - l) % 2 ^ l ≡ number n / 2 ^ (width n - l) % 2 ^ l =
    ap (λ w. number (ip_of a) / 2 ^ (w - l) % 2 ^ l) wide ∙ bits in
    λ i. record { is_ipv6 = h.kind i; length = l; bits = same i }

pub in_by_key : (p : Prefix) (a : Address) → leading (length_of p) (ip_of a) ≡ leading_of p → IsIn p a
in_by_key p a same =
    let n = ip_of (network_of p) in
    let l = length_of p in
    let kind : is_ipv6 (ip_of a) ≡ is_ipv6 n = ap (λ (k : Leading). k.is_ipv6) same in
    let wide : width (ip_of a) ≡ width n = widths (ip_of a) n kind in
    let bits : number (ip_of a) / 2 ^ (width n - l) % 2 ^ l ≡ number n / 2 ^ (width n - l) % 2 ^ l =
    ap (λ w. number (ip_of a) / 2 ^ (w - l) % 2 ^ l) (sym wide) ∙ ap (λ (k : Leading). k.bits) same in
    let each = each_bit (width n) (number (ip_of a)) (number n) l p.fits bits in
    record {
      kind = kind;
      bits = subst (λ (w : ℕ). (k : ℕ) → k < l → bit_at w (number (ip_of a)) k ≡ bit n k) (sym wide) each;
    }

-- ## The longest

-- the key at a place is that of the prefix there
pub key_at : (prefixes : List Prefix) (place : ℕ) (key : Leading) →
    slice_get (map leading_of prefixes) place ≡ Some key →
    (p : Prefix) × (slice_get prefixes place ≡ Some p) × (leading_of p ≡ key)
key_at [] place key at = absurd (none-some key at)
key_at (p ∷ rest) zero key at = (p, refl, same_Some (leading_of p) key at)
key_at (p ∷ rest) (suc place) key at = key_at rest place key at

pub at_key : (prefixes : List Prefix) (place : ℕ) (p : Prefix) → slice_get prefixes place ≡ Some p →
    slice_get (map leading_of prefixes) place ≡ Some (leading_of p)
at_key prefixes place p at = slice_get-map leading_of prefixes place ∙ ap (option_map leading_of) at

-- the place of a key has it, and where none has it, it is at none
pub found_key : (keys : List Leading) (key : Leading) (place : ℕ) → position (key_eq key) keys ≡ Some place →
    slice_get keys place ≡ Some key
found_key keys key place is =
    let at = position-Some (key_eq key) keys place key is in
    slice_get-get_or keys place key at.0 ∙ ap (λ k. Some k) (sym (key_same key (get_or keys place key) at.1))

pub missing_key : (keys : List Leading) (key : Leading) (place : ℕ) → position (key_eq key) keys ≡ None →
    slice_get keys place ≢ Some key
missing_key keys key place none at =
    let within = slice_get_within keys place key at in
    let same : get_or keys place key ≡ key = get_or_from_slice_get keys place key key at in
    let first = position_or_len (key_eq key) keys in
    elim (cases_lt first (length keys)) [
      | inl inside ↦ none-some first (sym none ∙ ap (λ b. cond b (Some first) None) (lt-ltb first (length keys) inside))
      | inr past ↦ true≢false (sym (ap (key_eq key) same ∙ key_itself key)
          ∙ fails_before_first (key_eq key) keys place key (omega (arith, within, past)))
    ]

-- none of the prefixes that has the address is longer
abbrev pub NoneLonger : List Leading → Address → ℕ → Type 0
NoneLonger keys a length =
    (l : ℕ) → length < l → l ≤ width (ip_of a) → position (key_eq (leading l (ip_of a))) keys ≡ None

width_in : (p : Prefix) (a : Address) → IsIn p a → length_of p ≤ width (ip_of a)
width_in p a h = omega (arith, p.fits, widths (ip_of a) (ip_of (network_of p)) h.kind)

module _ (prefixes : List Prefix) (keys : List Leading) (stands : keys ≡ map leading_of prefixes) (a : Address) where
  none_has : (p : Prefix) (place : ℕ) → slice_get prefixes place ≡ Some p → IsIn p a →
      position (key_eq (leading (length_of p) (ip_of a))) keys ≢ None
  none_has p place at h none =
      missing_key keys (leading (length_of p) (ip_of a)) place none
      (ap (λ (l : List Leading). slice_get l place) stands ∙ at_key prefixes place p at
      ∙ ap (λ k. Some k) (sym (same_key p a h)))

  -- the first length at which a key is there
  pub is_longest : (length place : ℕ) → NoneLonger keys a length →
      position (key_eq (leading length (ip_of a))) keys ≡ Some place → IsLongest prefixes a place
  is_longest length place none_longer is =
      let key = leading length (ip_of a) in
      let at = found_key keys key place is in
      let found = key_at prefixes place key (ap (λ (l : List Leading). slice_get l place) (sym stands) ∙ at) in
      let p = found.0 in
      let long : length_of p ≡ length = ap (λ (k : Leading). k.length) found.2 in
      record {
        prefix = p;
        there = found.1;
        has = in_by_key p a (ap (λ l. leading l (ip_of a)) long ∙ sym found.2);
        longest = λ elsewhere other there h. elim (cases_lt length (length_of other)) [
          | inl longer ↦ absurd (none_has other elsewhere there h
              (none_longer (length_of other) longer (width_in other a h)))
          | inr no_longer ↦ omega (arith, long, no_longer)
        ];
      }

  -- at no length is there one
  pub none_at_all : ((l : ℕ) → l ≤ width (ip_of a) → position (key_eq (leading l (ip_of a))) keys ≡ None) →
      NoneHas prefixes a
  none_at_all none place p at h = none_has p place at h (none (length_of p) (width_in p a h))
