-- The function of prefixes' texts answers what is stated, and nothing else.
use Rattle.std.proofs.Common.{◌≡◌, ℕ, ◌-◌, ◌%◌, ◌≤◌, ◌^◌, eqb, List, [], ◌∷◌, ◌++◌, Option, Some, None, MatchOption, option_map, option_and_then, refl, sym, ap, ◌∙◌, subst, arith, inl, inr, eq-eqb, eqb-true, append_assoc}
use Rattle.std.proofs.lemmas.Bool.{cases_Bool}
use Rattle.roam_address.specs.declared.address.Address.{Address}
use Rattle.roam_address.specs.declared.prefix.Prefix.{Prefix}
use Rattle.roam_address.specs.Addresses.{ip_of, IsAddressText}
use Rattle.roam_address.specs.Bits.{width, number}
use Rattle.roam_address.specs.Decimals.{decimal_in}
use Rattle.roam_address.specs.Prefixes.{network_of, length_of, IsWholeText, IsPartText, IsPrefixText, shown_prefix}
use Rattle.roam_address.specs.Reading.{Reads}
use Rattle.roam_address.specs.Texts.{address_in, cut_last, network_with, part, whole_or_part, prefix_in}
use Rattle.roam_address.proofs.AddressLemmas.{one_address}
use Rattle.roam_address.proofs.DecimalLemmas.{decimal_in-most}
use Rattle.roam_address.proofs.PrefixLemmas.{lacks_address, lacks_digits, spelled_at}
use Rattle.roam_address.proofs.SplitLemmas.{Lacks, cut_last-parts, not_lacking, one_cut}
use Rattle.roam_address.proofs.TextLemmas.{same_answer, address_in-reads}

-- an address that a text states is the one that it is read as
states_in : (text : List ℕ) (a : Address) → IsAddressText text a → address_in text ≡ Some a
states_in text a states =
    same_answer IsAddressText text (address_in text) (Some a) (one_address text) (address_in-reads text) states

in_states : (text : List ℕ) (a : Address) (r : Option Address) → address_in text ≡ r → r ≡ Some a → IsAddressText text a
in_states text a r is some =
    subst (λ (o : Option Address). Reads IsAddressText text o) (is ∙ some) (address_in-reads text)

none_in : (text : List ℕ) (r : Option Address) → address_in text ≡ r → ((a : Address) → ¬ (IsAddressText text a)) →
    address_in text ≡ None
none_in text None is none = is
none_in text (Some a) is none = absurd (none a (in_states text a (Some a) is refl))

-- a text is cut at its last slash
cut_at : (text host digits : List ℕ) → text ≡ host ++ 47 ∷ digits → Lacks 47 digits →
    (r : Option (List ℕ × List ℕ)) → cut_last 47 text ≡ r → cut_last 47 text ≡ Some (host, digits)
cut_at text host digits cut lacks r is = of r is
    (subst (λ (o : Option (List ℕ × List ℕ)). MatchOption o (Lacks 47 text)
    (λ parts. (text ≡ parts.0 ++ 47 ∷ parts.1) × Lacks 47 parts.1)) is (cut_last-parts 47 text))
  where
    of : (r : Option (List ℕ × List ℕ)) → cut_last 47 text ≡ r →
        MatchOption r (Lacks 47 text) (λ parts. (text ≡ parts.0 ++ 47 ∷ parts.1) × Lacks 47 parts.1) →
        cut_last 47 text ≡ Some (host, digits)
    of None is none = absurd (not_lacking 47 host digits (subst (Lacks 47) cut none))
    of (Some parts) is split =
        let same = one_cut 47 parts.0 parts.1 host digits split.1 lacks (sym split.0 ∙ cut) in
        is ∙ (λ i. Some (same.0 i, same.1 i))

-- what a prefix's text is read as
of_whole : (text : List ℕ) (p : Prefix) → IsWholeText text p → prefix_in text ≡ Some (shown_prefix p)
unfolding prefix_in
of_whole text p h =
    ap (λ (r : Option Address). whole_or_part r (cut_last 47 text)) (states_in text (network_of p) h.states)
    ∙ ap (λ n. Some (record { network = network_of p; length = n })) (sym h.all)

zero_test : (a : Address) (n : ℕ) → number (ip_of a) % 2 ^ (width (ip_of a) - n) ≡ 0 →
    network_with a n ≡ Some (record { network = a; length = n })
zero_test a n zero = rw (eq-eqb (number (ip_of a) % 2 ^ (width (ip_of a) - n)) 0 zero) refl

of_part : (text : List ℕ) (p : Prefix) → IsPartText text p → prefix_in text ≡ Some (shown_prefix p)
unfolding prefix_in
of_part text p h =
    let a = network_of p in
    let no_address = none_in text (address_in text) refl (λ b states.
    not_lacking 47 h.address h.digits (subst (Lacks 47) (spelled_at text p h) (lacks_address text b states))) in
    let cut = cut_at text h.address h.digits (spelled_at text p h) (lacks_digits text p h) (cut_last 47 text) refl in
    ap (λ (r : Option Address). whole_or_part r (cut_last 47 text)) no_address
    ∙ ap (λ (r : Option (List ℕ × List ℕ)). whole_or_part None r) cut
    ∙ ap (λ (r : Option Address). part r h.digits) (states_in h.address a h.states)
    ∙ ap (λ (r : Option ℕ). option_and_then (network_with a) r) h.count
    ∙ zero_test a (length_of p) p.zero_below

-- where no prefix is stated, none is read
module _ (text : List ℕ) (none : (p : Prefix) → ¬ (IsPrefixText text p)) where
  all_zero : (a : Address) → number (ip_of a) % 2 ^ (width (ip_of a) - width (ip_of a)) ≡ 0
  all_zero a =
      let nothing : width (ip_of a) - width (ip_of a) ≡ 0 = omega arith in
      ap (λ k. number (ip_of a) % 2 ^ k) nothing ∙ omega arith

  no_whole : (a : Address) → ¬ (IsAddressText text a)
  no_whole a states =
      none (record { network = a; length = width (ip_of a); fits = omega arith; zero_below = all_zero a })
      (inl (record { states = states; all = refl }))

  module _ (host digits : List ℕ) (cut : text ≡ host ++ 47 ∷ digits) where
    counted : (a : Address) → IsAddressText host a → (n : Option ℕ) → decimal_in 0 (width (ip_of a)) digits ≡ n →
        option_and_then (network_with a) n ≡ None
    counted a states None is = refl
    counted a states (Some n) is =
        let fits : n ≤ width (ip_of a) = decimal_in-most 0 (width (ip_of a)) digits n is in
        elim (cases_Bool (eqb (number (ip_of a) % 2 ^ (width (ip_of a) - n)) 0)) [
          | inl yes' ↦ absurd (none (record {
            network = a;
            length = n;
            fits = fits;
            zero_below = eqb-true (number (ip_of a) % 2 ^ (width (ip_of a) - n)) 0 yes';
          }) (inr (record {
            address = host;
            digits = digits;
            spelled = cut ∙ sym (append_assoc host (47 ∷ []) digits);
            states = states;
            count = is;
          })))
          | inr no' ↦ rw no' refl
        ]

    parted : (r : Option Address) → address_in host ≡ r → part r digits ≡ None
    parted None is = refl
    parted (Some a) is = counted a (in_states host a (Some a) is refl) (decimal_in 0 (width (ip_of a)) digits) refl

  of_cut : (r : Option (List ℕ × List ℕ)) →
      MatchOption r (Lacks 47 text) (λ parts. (text ≡ parts.0 ++ 47 ∷ parts.1) × Lacks 47 parts.1) →
      whole_or_part None r ≡ None
  of_cut None lacks = refl
  of_cut (Some parts) cut = parted parts.0 parts.1 cut.0 (address_in parts.0) refl

  of_none : prefix_in text ≡ None
  unfolding prefix_in
  of_none =
      ap (λ (r : Option Address). whole_or_part r (cut_last 47 text)) (none_in text (address_in text) refl no_whole)
      ∙ of_cut (cut_last 47 text) (cut_last-parts 47 text)

pub is_prefix_in : (text : List ℕ) (r : Option Prefix) → Reads IsPrefixText text r →
    option_map shown_prefix r ≡ prefix_in text
is_prefix_in text None none = sym (of_none text none)
is_prefix_in text (Some p) (inl h) = sym (of_whole text p h)
is_prefix_in text (Some p) (inr h) = sym (of_part text p h)
