-- Two octets are the same just where their exclusive or is 0.
use Rattle.std.proofs.Common.{◌≡◌, ◌↔◌, ◌∙◌, ℕ, ◌+◌, ◌<◌, List, [], ◌∷◌, ◌++◌, ap, sym, take, length, slice_index_or, bit_or, bit_xor, arith}
use Rattle.std.specs.Int.Bits.{xor_assoc, xor_self, xor_zero_l, xor_zero_r, or_zero_l}
use Rattle.std.proofs.lemmas.Grind.{take_at_read}
use Rattle.std.proofs.lemmas.List.{same_from_push}
use Rattle.std.proofs.lemmas.Nat.{le_or_l, le_or_r}

same_octet : (a b : ℕ) → bit_xor a b ≡ 0 → a ≡ b
same_octet a b none =
    sym (xor_zero_r a) ∙ ap (bit_xor a) (sym (xor_self b)) ∙ sym (xor_assoc a b b)
    ∙ ap (λ x. bit_xor x b) none ∙ xor_zero_l b

-- one octet more is looked at
pub next_octet : (difference at : ℕ) (one other : List ℕ) → at < length one → at < length other
    → ((difference ≡ 0) ↔ (take at one ≡ take at other))
    → (bit_or difference (bit_xor (slice_index_or one at 0) (slice_index_or other at 0)) ≡ 0)
    ↔ (take (at + 1) one ≡ take (at + 1) other)
next_octet difference at one other in_one in_other so_far =
    let a = slice_index_or one at 0 in
    let b = slice_index_or other at 0 in
    let one_more : take (at + 1) one ≡ take at one ++ a ∷ [] = (take_at_read one at 0 in_one).1 in
    let other_more : take (at + 1) other ≡ take at other ++ b ∷ [] = (take_at_read other at 0 in_other).1 in (
      (λ none.
          let before : difference ≡ 0 = omega (arith, none, le_or_l difference (bit_xor a b)) in
          let here : bit_xor a b ≡ 0 = omega (arith, none, le_or_r difference (bit_xor a b)) in
          one_more ∙ ap (λ octets. octets ++ a ∷ []) (so_far.0 before)
          ∙ ap (λ octet. take at other ++ octet ∷ []) (same_octet a b here) ∙ sym other_more),
      (λ same.
          let parts = same_from_push (take at one) (take at other) a b (sym one_more ∙ same ∙ other_more) in
          ap (λ d. bit_or d (bit_xor a b)) (so_far.1 parts.0) ∙ or_zero_l (bit_xor a b)
          ∙ ap (bit_xor a) (sym parts.1) ∙ xor_self a),
    )
