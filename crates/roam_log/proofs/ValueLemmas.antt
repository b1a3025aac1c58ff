-- The octets that a value keeps.
use Rattle.std.proofs.Common.{◌≡◌, ◌∙◌, ℕ, ◌≤◌, List, ◌++◌, length, take, min, ap, arith}
use Rattle.std.proofs.lemmas.List.{length-take-le, take_at, take_min}

pub kept : (size : ℕ) (octets written rest : List ℕ) (len : ℕ) → len ≡ min (length octets) size →
    written ≡ take len octets → take (min len size) (written ++ rest) ≡ take size octets
kept size octets written rest len is front =
    let few : len ≤ length octets = omega (arith, is) in
    let long : length written ≡ len = ap (λ (l : List ℕ). length l) front ∙ length-take-le len octets few in
    let all : min len size ≡ len = omega (arith, is) in
    let most : len ≡ min size (length octets) = omega (arith, is) in
    ap (λ n. take n (written ++ rest)) all ∙ take_at written rest len long ∙ front
    ∙ ap (λ n. take n octets) most ∙ take_min size octets

pub value-kept : (octets written rest : List ℕ) (len : ℕ) → len ≡ min (length octets) 253 → written ≡ take len octets →
    take (min len 253) (written ++ rest) ≡ take 253 octets
value-kept octets written rest len is front = kept 253 octets written rest len is front
