-- The text of a prefix.
use Rattle.std.proofs.Common.{◌≡◌, ◌≢◌, ◌⊎◌, ℕ, zero, suc, ◌-◌, ◌%◌, ◌<◌, ◌≤◌, ◌^◌, Bool, true, false, List, [], ◌∷◌, ◌++◌, length, append_assoc, Option, Some, None, MatchOption, IsSomeAnd, decimal, refl, sym, ap, ◌∙◌, subst, arith, inl, inr, eq-eqb, ne_eqb}
use Rattle.std.proofs.lemmas.Bool.{cases_eq}
use Rattle.std.proofs.lemmas.Fmt.{decimal_is_IsNumeral}
use Rattle.std.proofs.lemmas.Option.{same_Some, none-some}
use Rattle.std.specs.Char.{digit_value}
use Rattle.std.specs.Str.Parse.{AllDigits}
use Rattle.std.specs.declared.net.ip_addr.IpAddr.{IpAddr}
use Rattle.std.specs.declared.net.ip_addr.IpAddr.TheVariants.{V4, V6}
use Rattle.std.specs.Net.Grammar.{IsDotted, IsGroupsAfter, IsColonHex, IsIpText}
use Rattle.roam_address.specs.declared.address.Address.{Address}
use Rattle.roam_address.specs.declared.prefix.Prefix.{Prefix}
use Rattle.roam_address.specs.Addresses.{ip_of, IsAddressText, address_text}
use Rattle.roam_address.specs.Bits.{width, number}
use Rattle.roam_address.specs.Decimals.{decimal_in}
use Rattle.roam_address.specs.Prefixes.{network_of, length_of, IsWholeText, IsPartText, IsPrefixText, HasBitBelow, prefix_text}
use Rattle.roam_address.specs.Reading.{Reads}
use Rattle.roam_address.proofs.AddressLemmas.{one_address}
use Rattle.roam_address.proofs.DecimalLemmas.{decimal_lacks, decimal_in-decimal}
use Rattle.roam_address.proofs.SplitLemmas.{Lacks, not_lacking, one_cut}

-- ## No slash (47) stands in an address

digits_lack : (radix : ℕ) (ds : List ℕ) → radix ≤ 16 → AllDigits radix ds → Lacks 47 ds
digits_lack radix [] small all i within here = absurd (omega (arith, within))
digits_lack radix (d ∷ ds) small all zero within here =
    let big : digit_value 47 < radix = rw here at all.0 in
    omega arith
digits_lack radix (d ∷ ds) small all (suc i) within here =
    digits_lack radix ds small all.1 i (omega (arith, within)) here

lacks_append : (xs ys : List ℕ) → Lacks 47 xs → Lacks 47 ys → Lacks 47 (xs ++ ys)
lacks_append [] ys one other i within here = other i within here
lacks_append (x ∷ xs) ys one other zero within here = one 0 (omega arith) here
lacks_append (x ∷ xs) ys one other (suc i) within here =
    lacks_append xs ys (λ j w h. one (suc j) (omega (arith, w)) h) other i (omega (arith, within)) here

lacks_one : (c : ℕ) → c ≢ 47 → Lacks 47 (c ∷ [])
lacks_one c other zero within here = other here
lacks_one c other (suc i) within here = absurd (omega (arith, within))

lacks_nothing : Lacks 47 []
lacks_nothing i within here = absurd (omega (arith, within))

lacks_decimal : (n : ℕ) → n < 256 → Lacks 47 (decimal n)
lacks_decimal n small = digits_lack 10 (decimal n) (omega arith) (decimal_is_IsNumeral n (omega (arith, small))).0.1

lacks_dotted : (text octets : List ℕ) → IsDotted text octets → Lacks 47 text
lacks_dotted text octets h =
    let dot = lacks_one 46 (omega arith) in
    let a = lacks_decimal h.a h.fit.0 in
    let b = lacks_append _ _ (lacks_append _ _ a dot) (lacks_decimal h.b h.fit.1) in
    let c = lacks_append _ _ (lacks_append _ _ b dot) (lacks_decimal h.c h.fit.2) in
    let d = lacks_append _ _ (lacks_append _ _ c dot) (lacks_decimal h.d h.fit.3) in
    subst (Lacks 47) (sym h.spelled) d

lacks_groups : (ipv4 : Bool) (lead text segments : List ℕ) → Lacks 47 lead → IsGroupsAfter ipv4 lead text segments →
    Lacks 47 text
lacks_groups ipv4 lead text [] lacks h = subst (Lacks 47) (sym h) lacks_nothing
lacks_groups ipv4 lead text (s ∷ segments) lacks (inl h) =
    let rest = lacks_groups ipv4 (58 ∷ []) h.1 segments (lacks_one 58 (omega arith)) h.4 in
    let group = digits_lack 16 h.0 (omega arith) h.3.0.0.1 in
    subst (Lacks 47) (sym h.2) (lacks_append _ _ (lacks_append lead h.0 lacks group) rest)
lacks_groups ipv4 lead text (s ∷ segments) lacks (inr h) =
    subst (Lacks 47) (sym h.3) (lacks_append lead h.0 lacks (lacks_dotted h.0 h.1 h.4))

lacks_hex : (text segments : List ℕ) → IsColonHex text segments → Lacks 47 text
lacks_hex text segments (inl h) = lacks_groups true [] text segments lacks_nothing h.0
lacks_hex text segments (inr h) =
    let colon = lacks_one 58 (omega arith) in
    let head = lacks_groups false [] h.head_text h.head lacks_nothing h.head_groups in
    let tail = lacks_groups true [] h.tail_text h.tail lacks_nothing h.tail_groups in
    subst (Lacks 47) (sym h.spelled)
    (lacks_append _ _
    (lacks_append h.head_text (58 ∷ 58 ∷ []) head (lacks_append (58 ∷ []) (58 ∷ []) colon colon)) tail)

lacks_ip : (text : List ℕ) (ip : IpAddr) → IsIpText text ip → Lacks 47 text
lacks_ip text (V4 a) h = lacks_dotted text _ h
lacks_ip text (V6 a) h = lacks_hex text _ h

pub lacks_address : (text : List ℕ) (a : Address) → IsAddressText text a → Lacks 47 text
lacks_address text a h = lacks_ip text (ip_of a) h.spelled

-- ## What reads a prefix

pub spelled_at : (text : List ℕ) (p : Prefix) (h : IsPartText text p) → text ≡ h.address ++ 47 ∷ h.digits
spelled_at text p h = h.spelled ∙ append_assoc h.address (47 ∷ []) h.digits

pub lacks_digits : (text : List ℕ) (p : Prefix) (h : IsPartText text p) → Lacks 47 h.digits
lacks_digits text p h = decimal_lacks 47 0 (width (ip_of (network_of p))) h.digits (length_of p) refl h.count

-- an address alone
pub reads_whole : (text : List ℕ) (a : Address) (p : Prefix) → IsAddressText text a → network_of p ≡ a →
    length_of p ≡ width (ip_of a) → IsPrefixText text p
reads_whole text a p states network all = inl (record {
  states = subst (IsAddressText text) (sym network) states;
  all = all ∙ ap (λ (x : Address). width (ip_of x)) (sym network);
})

module _ (text : List ℕ) (none : Reads IsAddressText text None) where
  part_alone : ((p : Prefix) → ¬ (IsPartText text p)) → Reads IsPrefixText text None
  part_alone no_part p h = elim h [
    | inl whole ↦ none (network_of p) whole.states
    | inr part ↦ no_part p part
  ]

  -- without a slash
  pub reads_no_slash : Lacks 47 text → Reads IsPrefixText text None
  reads_no_slash lacks =
      part_alone (λ p h. not_lacking 47 h.address h.digits (subst (Lacks 47) (spelled_at text p h) lacks))

  -- cut at its last slash
  module _ (host digits : List ℕ) (cut : text ≡ host ++ 47 ∷ digits) (lacks : Lacks 47 digits) where
    same_cut : (p : Prefix) (h : IsPartText text p) → (h.address ≡ host) × (h.digits ≡ digits)
    same_cut p h =
        one_cut 47 h.address h.digits host digits (lacks_digits text p h) lacks (sym (spelled_at text p h) ∙ cut)

    pub reads_no_network : Reads IsAddressText host None → Reads IsPrefixText text None
    reads_no_network no_network =
        part_alone (λ p h. no_network (network_of p)
        (subst (λ (t : List ℕ). IsAddressText t (network_of p)) (same_cut p h).0 h.states))

    -- with an address in front of it
    module _ (a : Address) (states : IsAddressText host a) where
      same_network : (p : Prefix) → IsPartText text p → network_of p ≡ a
      same_network p h = one_address host (network_of p) a
          (subst (λ (t : List ℕ). IsAddressText t (network_of p)) (same_cut p h).0 h.states) states

      same_count : (p : Prefix) → IsPartText text p → decimal_in 0 (width (ip_of a)) digits ≡ Some (length_of p)
      same_count p h =
          ap (λ (x : Address). decimal_in 0 (width (ip_of x)) digits) (sym (same_network p h))
          ∙ ap (decimal_in 0 (width (ip_of (network_of p)))) (sym (same_cut p h).1) ∙ h.count

      pub reads_no_length : decimal_in 0 (width (ip_of a)) digits ≡ None → Reads IsPrefixText text None
      reads_no_length no_length = part_alone (λ p h. none-some (length_of p) (sym no_length ∙ same_count p h))

      pub reads_made : (n : ℕ) (r : Option Prefix) → decimal_in 0 (width (ip_of a)) digits ≡ Some n →
          n ≤ width (ip_of a) → MatchOption r ((width (ip_of a) < n) ⊎ HasBitBelow a n)
          (λ p. (network_of p ≡ a) × (length_of p ≡ n)) → Reads IsPrefixText text r
      reads_made n None count fits refused = part_alone (λ p h. elim refused [
        | inl long ↦ absurd (omega (arith, long, fits))
        | inr below ↦ (
            let length : length_of p ≡ n = same_Some (length_of p) n (sym (same_count p h) ∙ count) in
            below (sym (ap (λ (x : Address). number (ip_of x) % 2 ^ (width (ip_of x) - n)) (same_network p h))
            ∙ sym (ap (λ k. number (ip_of (network_of p)) % 2 ^ (width (ip_of (network_of p)) - k)) length)
            ∙ p.zero_below))
      ])
      reads_made n (Some p) count fits made = inr (record {
        address = host;
        digits = digits;
        spelled = cut ∙ sym (append_assoc host (47 ∷ []) digits);
        states = subst (IsAddressText host) (sym made.0) states;
        count =
            ap (λ (x : Address). decimal_in 0 (width (ip_of x)) digits) made.0 ∙ count ∙ ap (λ k. Some k) (sym made.1);
      })

-- ## Laws

abbrev pub IsSame : Prefix → Prefix → Type 0
IsSame p q = (network_of p ≡ network_of q) × (length_of p ≡ length_of q)

one_part : (text : List ℕ) (p q : Prefix) → IsPartText text p → IsPartText text q → IsSame p q
one_part text p q h k =
    let cut = one_cut 47 h.address h.digits k.address k.digits (lacks_digits text p h) (lacks_digits text q k)
    (sym (spelled_at text p h) ∙ spelled_at text q k) in
    let network : network_of p ≡ network_of q = one_address k.address (network_of p) (network_of q)
    (subst (λ (t : List ℕ). IsAddressText t (network_of p)) cut.0 h.states) k.states in
    let count : decimal_in 0 (width (ip_of (network_of q))) k.digits ≡ Some (length_of p) =
    ap (λ (x : Address). decimal_in 0 (width (ip_of x)) k.digits) (sym network)
    ∙ ap (decimal_in 0 (width (ip_of (network_of p)))) (sym cut.1) ∙ h.count in
    (network, same_Some (length_of p) (length_of q) (sym count ∙ k.count))

mixed : (text : List ℕ) (p q : Prefix) → IsWholeText text p → ¬ (IsPartText text q)
mixed text p q h k =
    not_lacking 47 k.address k.digits
    (subst (Lacks 47) (spelled_at text q k) (lacks_address text (network_of p) h.states))

-- a text states one prefix at most
pub one_prefix : (text : List ℕ) (p q : Prefix) → IsPrefixText text p → IsPrefixText text q → IsSame p q
one_prefix text p q (inl h) (inl k) =
    let network = one_address text (network_of p) (network_of q) h.states k.states in
    (network, h.all ∙ ap (λ (x : Address). width (ip_of x)) network ∙ sym k.all)
one_prefix text p q (inl h) (inr k) = absurd (mixed text p q h k)
one_prefix text p q (inr h) (inl k) = absurd (mixed text q p k h)
one_prefix text p q (inr h) (inr k) = one_part text p q h k

pub width_small : (ip : IpAddr) → width ip ≤ 128
width_small (V4 a) = omega arith
width_small (V6 a) = omega arith

-- what is printed of a prefix states it
pub prefix_printed : (p : Prefix) → IsAddressText (address_text (network_of p)) (network_of p) →
    IsPrefixText (prefix_text p) p
prefix_printed p states =
    let small = width_small (ip_of (network_of p)) in
    let all = width (ip_of (network_of p)) in
    elim (cases_eq (length_of p) all) [
      | inl whole ↦ rw (eq-eqb (length_of p) all whole) (inl (record { states = states; all = whole }))
      | inr part ↦ rw (ne_eqb (length_of p) all part) (inr (record {
        address = address_text (network_of p);
        digits = decimal (length_of p);
        spelled = refl;
        states = states;
        count = decimal_in-decimal 0 all (length_of p) (omega arith) p.fits (omega (arith, small, p.fits));
      }))
    ]

pub found_back : (p : Prefix) (text : List ℕ) (read : Option Prefix) → IsPrefixText text p →
    Reads IsPrefixText text read → IsSomeAnd read (λ q. IsSame q p)
found_back p text None states none = absurd (none p states)
found_back p text (Some q) states reads = one_prefix text q p reads states
