-- Parts behind each other in a buffer.
use Rattle.std.proofs.Common.{◌≡◌, ℕ, ◌+◌, ◌-◌, ◌≤◌, List, [], ◌∷◌, ◌++◌, length, take, Option, refl, ap, ◌∙◌, arith, append_assoc}
use Rattle.std.specs.Prelude.{slice_set}
use Rattle.std.proofs.Math.ListN.{length-set}
use Rattle.std.proofs.lemmas.List.{take_more_set}
use Rattle.std.proofs.lemmas.Slice.{take-put_mid}
use borrow.Rule.Slice.PartMut.{put_mid}
use Rattle.roam_sessions.specs.Private.Row.{part_text}

-- an octet, and octets behind it
pub put-part : (buffer octets after : List ℕ) (at first end : ℕ) → after ≡ octets → end ≡ at + 1 + length octets
    → end ≤ length buffer
    → take end (put_mid (at + 1) (end - (at + 1)) (slice_set buffer at first) after) ≡ take at buffer ++ first ∷ octets
put-part buffer octets after at first end is ends fits =
    let sizes : length (slice_set buffer at first) ≡ length buffer = length-set buffer at first in
    let same : length after ≡ length octets = ap (λ (l : List ℕ). length l) is in
    take-put_mid (at + 1) (end - (at + 1)) (slice_set buffer at first) after end (omega (arith, ends, same))
    (omega (arith, sizes, fits, ends))
    ∙ ap (λ (l : List ℕ). l ++ after) (take_more_set buffer at first (omega (arith, fits, ends)))
    ∙ append_assoc (take at buffer) (first ∷ []) after
    ∙ ap (λ (l : List ℕ). take at buffer ++ first ∷ l) is

-- the octets of a number in front
front : (buffer : List ℕ) (h l : ℕ) → 2 ≤ length buffer
    → take 2 (slice_set (slice_set buffer 0 h) 1 l) ≡ h ∷ l ∷ []
front [] h l long = absurd (omega (arith, long))
front (a ∷ []) h l long = absurd (omega (arith, long))
front (a ∷ b ∷ rest) h l long = refl

-- four parts behind what is in front
pub four-behind : (front first second third fourth : List ℕ) (a b c d : Option (List ℕ))
    → first ≡ front ++ part_text a → second ≡ first ++ part_text b → third ≡ second ++ part_text c
    → fourth ≡ third ++ part_text d
    → fourth ≡ front ++ (part_text a ++ (part_text b ++ (part_text c ++ part_text d)))
four-behind front first second third fourth a b c d one two three four =
    four
    ∙ ap (λ (x : List ℕ). x ++ part_text d)
    (three ∙ ap (λ (x : List ℕ). x ++ part_text c) (two ∙ ap (λ (x : List ℕ). x ++ part_text b) one))
    ∙ ap (λ (x : List ℕ). x ++ part_text d) (append_assoc (front ++ part_text a) (part_text b) (part_text c))
    ∙ append_assoc (front ++ part_text a) (part_text b ++ part_text c) (part_text d)
    ∙ append_assoc front (part_text a) ((part_text b ++ part_text c) ++ part_text d)
    ∙ ap (λ (x : List ℕ). front ++ (part_text a ++ x)) (append_assoc (part_text b) (part_text c) (part_text d))

-- four parts behind the octets of a number
pub four-parts : (zero first second third fourth : List ℕ) (at to on end : ℕ) (h l : ℕ)
    (a b c d : Option (List ℕ)) → 2 ≤ length zero
    → take at first ≡ take 2 (slice_set (slice_set zero 0 h) 1 l) ++ part_text a
    → take to second ≡ take at first ++ part_text b
    → take on third ≡ take to second ++ part_text c
    → take end fourth ≡ take on third ++ part_text d
    → take end fourth ≡ h ∷ l ∷ part_text a ++ (part_text b ++ (part_text c ++ part_text d))
four-parts zero first second third fourth at to on end h l a b c d long one two three four =
    four-behind (h ∷ l ∷ []) (take at first) (take to second) (take on third) (take end fourth) a b c d
    (one ∙ ap (λ (x : List ℕ). x ++ part_text a) (front zero h l long)) two three four
