-- The host of an endpoint's text.
use Rattle.std.proofs.Common.{◌≡◌, ◌≢◌, ◌⊎◌, ℕ, Bool, true, false, cond, List, [], ◌∷◌, ◌++◌, drop, get_or, Option, Some, None, refl, sym, ap, ◌∙◌, subst, inl, inr, true≢false}
use Rattle.std.proofs.Math.Bool.{beq}
use Rattle.std.proofs.lemmas.Bool.{cases_Bool}
use Rattle.std.specs.declared.net.ip_addr.IpAddr.{IpAddr}
use Rattle.std.specs.declared.net.ip_addr.IpAddr.TheVariants.{V4, V6}
use Rattle.std.specs.Net.Addr.{is_ipv6}
use Rattle.std.specs.Net.Grammar.{IsIpText}
use Rattle.roam_address.specs.declared.address.Address.{Address}
use Rattle.roam_address.specs.Addresses.{ip_of, IsAddressText, IsTextOfKind, IsHostText, as_host}
use Rattle.roam_address.specs.Reading.{Reads}
use Rattle.roam_address.proofs.AddressLemmas.{one_address, not_bracket}

pub differs : (a b : Bool) → beq a b ≡ false → a ≢ b
differs true true is = absurd (true≢false is)
differs true false is = λ same. true≢false same
differs false true is = λ same. true≢false (sym same)
differs false false is = absurd (true≢false is)

-- an address of another kind is none of this one
pub other_kind : (kind : Bool) (text : List ℕ) (a : Address) → IsAddressText text a → is_ipv6 (ip_of a) ≢ kind →
    Reads (IsTextOfKind kind) text None
other_kind kind text a is other = λ b h.
    other (ap (λ (x : Address). is_ipv6 (ip_of x)) (one_address text a b is h.states) ∙ h.kind)

pub no_kind : (kind : Bool) (text : List ℕ) → Reads IsAddressText text None → Reads (IsTextOfKind kind) text None
no_kind kind text none = λ a h. none a h.states

-- a host is an IPv6 address in brackets, or an IPv4 address
abbrev IsBracketed : List ℕ → Address → Type 0
IsBracketed text a =
    (inner : List ℕ) × (is_ipv6 (ip_of a) ≡ true) × (text ≡ 91 ∷ (inner ++ 93 ∷ [])) × IsAddressText inner a

abbrev IsPlain : List ℕ → Address → Type 0
IsPlain text a = (is_ipv6 (ip_of a) ≡ false) × IsAddressText text a

kinds : (text : List ℕ) (a : Address) → IsHostText text a → IsBracketed text a ⊎ IsPlain text a
kinds text a h =
    elim (cases_Bool (is_ipv6 (ip_of a))) [
      | inl yes' ↦ inl (h.inner, yes', h.spelled ∙ ap (λ b. cond b (91 ∷ (h.inner ++ 93 ∷ [])) h.inner) yes', h.states)
      | inr no' ↦ (
          let same : text ≡ h.inner = h.spelled ∙ ap (λ b. cond b (91 ∷ (h.inner ++ 93 ∷ [])) h.inner) no' in
          inr (no', subst (λ (t : List ℕ). IsAddressText t a) (sym same) h.states))
    ]

pub bracketed : (inner : List ℕ) (a : Address) → is_ipv6 (ip_of a) ≡ true → IsAddressText inner a →
    IsHostText (91 ∷ (inner ++ 93 ∷ [])) a
bracketed inner a kind states = record {
  inner = inner;
  spelled = ap (λ b. cond b (91 ∷ (inner ++ 93 ∷ [])) inner) (sym kind);
  states = states;
}

pub plain : (text : List ℕ) (a : Address) → is_ipv6 (ip_of a) ≡ false → IsAddressText text a → IsHostText text a
plain text a kind states = record {
  inner = text;
  spelled = ap (λ b. cond b (91 ∷ (text ++ 93 ∷ [])) text) (sym kind);
  states = states;
}

no_bracket_ip : (rest : List ℕ) (ip : IpAddr) → is_ipv6 ip ≡ false → ¬ (IsIpText (91 ∷ rest) ip)
no_bracket_ip rest (V4 a) kind h = not_bracket rest _ h
no_bracket_ip rest (V6 a) kind h = true≢false kind

-- no IPv4 address begins with a bracket
plain_bracket : (rest : List ℕ) (a : Address) → ¬ (IsPlain (91 ∷ rest) a)
plain_bracket rest a h = no_bracket_ip rest (ip_of a) h.0 h.1.spelled

-- without a bracket in front
pub reads_plain : (text : List ℕ) (r : Option Address) → ((rest : List ℕ) → text ≢ 91 ∷ rest) →
    Reads (IsTextOfKind false) text r → Reads IsHostText text r
reads_plain text None open' none = λ a h. elim (kinds text a h) [
  | inl b ↦ open' _ b.2
  | inr p ↦ none a (record { states = p.1; kind = p.0 })
]
reads_plain text (Some a) open' is = plain text a is.kind is.states

-- with one in front and none behind
pub reads_open : (text rest : List ℕ) → text ≡ 91 ∷ rest → ((front : List ℕ) → rest ≢ front ++ 93 ∷ []) →
    Reads IsHostText text None
reads_open text rest is open' = λ a h. elim (kinds text a h) [
  | inl b ↦ open' b.0 (ap (drop 1) (sym is ∙ b.2))
  | inr p ↦ plain_bracket rest a (subst (λ (t : List ℕ). IsPlain t a) is p)
]

-- with one in front, and no address between it and one behind
pub reads_no_inner : (text rest : List ℕ) → text ≡ 91 ∷ rest →
    ((inner : List ℕ) (a : Address) → rest ≡ inner ++ 93 ∷ [] → is_ipv6 (ip_of a) ≡ true → ¬ (IsAddressText inner a)) →
    Reads IsHostText text None
reads_no_inner text rest is none = λ a h. elim (kinds text a h) [
  | inl b ↦ none b.0 a (ap (drop 1) (sym is ∙ b.2)) b.1 b.3
  | inr p ↦ plain_bracket rest a (subst (λ (t : List ℕ). IsPlain t a) is p)
]

snoc_same : (xs ys : List ℕ) → xs ++ 93 ∷ [] ≡ ys ++ 93 ∷ [] → xs ≡ ys
snoc_same [] [] same = refl
snoc_same [] (y ∷ ys) same = absurd (nothing ys (ap (drop 1) same))
  where
    nothing : (ys : List ℕ) → [] ≡ ys ++ 93 ∷ [] → ⊥
    nothing [] e = cc
    nothing (y ∷ ys) e = cc
snoc_same (x ∷ xs) [] same = absurd (nothing xs (sym (ap (drop 1) same)))
  where
    nothing : (ys : List ℕ) → [] ≡ ys ++ 93 ∷ [] → ⊥
    nothing [] e = cc
    nothing (y ∷ ys) e = cc
snoc_same (x ∷ xs) (y ∷ ys) same =
    let rest = snoc_same xs ys (ap (drop 1) same) in
    let first : x ≡ y = ap (λ l. get_or l 0 0) same in
    λ i. first i ∷ rest i

-- in brackets
pub reads_bracketed : (text rest inner : List ℕ) (r : Option Address) → text ≡ 91 ∷ rest → rest ≡ inner ++ 93 ∷ [] →
    Reads (IsTextOfKind true) inner r → Reads IsHostText text r
reads_bracketed text rest inner None is inside none = λ a h. elim (kinds text a h) [
  | inl b ↦ (
      let same : inner ≡ b.0 = snoc_same inner b.0 (sym inside ∙ ap (drop 1) (sym is ∙ b.2)) in
      none a (record { states = subst (λ (t : List ℕ). IsAddressText t a) (sym same) b.3; kind = b.1 }))
  | inr p ↦ plain_bracket rest a (subst (λ (t : List ℕ). IsPlain t a) is p)
]
reads_bracketed text rest inner (Some a) is inside states =
    subst (λ (t : List ℕ). IsHostText t a) (sym (is ∙ ap (λ l. 91 ∷ l) inside))
    (bracketed inner a states.kind states.states)

-- a host is that of one address
pub one_host : (text : List ℕ) (a b : Address) → IsHostText text a → IsHostText text b → a ≡ b
one_host text a b h k = elim (kinds text a h) [
  | inl p ↦ elim (kinds text b k) [
    | inl q ↦ (
        let same : p.0 ≡ q.0 = snoc_same p.0 q.0 (ap (drop 1) (sym p.2 ∙ q.2)) in
        one_address q.0 a b (subst (λ (t : List ℕ). IsAddressText t a) same p.3) q.3)
    | inr q ↦ absurd (plain_bracket _ b (subst (λ (t : List ℕ). IsPlain t b) p.2 q))
  ]
  | inr p ↦ elim (kinds text b k) [
    | inl q ↦ absurd (plain_bracket _ a (subst (λ (t : List ℕ). IsPlain t a) q.2 p))
    | inr q ↦ one_address text a b p.1 q.1
  ]
]

-- what is printed of an address, as a host, is one of it
pub host_of : (text : List ℕ) (a : Address) → IsAddressText text a → IsHostText (as_host a text) a
host_of text a states = record { inner = text; spelled = refl; states = states }
