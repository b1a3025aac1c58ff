-- Octets have one cutting into packets.
use Rattle.std.proofs.Common.{◌≡◌, inl, inr, ℕ, ◌+◌, ◌*◌, ◌≤◌, List, [], ◌∷◌, ◌++◌, length, get_or, take, drop, refl, sym, ◌∙◌, ap, ap₂, arith, append_assoc, length-append}
use Rattle.std.proofs.Math.Seq.{take-append_seam, drop-append_seam}
use Rattle.std.proofs.lemmas.List.{get_or_append_left, length-take-le, take-append-drop}
use Rattle.std.specs.List.{AllByRecursion}
use Rattle.roam_wire.specs.Reading.{length_field}
use Rattle.roam_streams.specs.Cutting.{Cuts, HasLength, HasNoPacket, IsPacket, joined}

-- Length stands in the first four octets
pub length_field-append : (x t : List ℕ) → 4 ≤ length x → length_field (x ++ t) ≡ length_field x
length_field-append x t h =
    let high : get_or (x ++ t) 2 0 ≡ get_or x 2 0 = get_or_append_left x t 0 2 (omega (arith, h)) in
    let low : get_or (x ++ t) 3 0 ≡ get_or x 3 0 = get_or_append_left x t 0 3 (omega (arith, h)) in
    ap₂ (λ a b. 256 * a + b) high low

-- the Length of octets that begin with a packet is that packet's size
pub size_of_front : (s t : List ℕ) → IsPacket s → length_field (s ++ t) ≡ length s
size_of_front s t p = length_field-append s t (omega (arith, p.at_least_20)) ∙ p.size

-- where a packet stands at the front there is one
pub has_packet : (s t r : List ℕ) → s ++ t ≡ r → IsPacket s → HasNoPacket r → ⊥
has_packet s t r e p h =
    let field : length_field r ≡ length s = ap length_field (sym e) ∙ size_of_front s t p in
    let size : length r ≡ length s + length t = ap length (sym e) ∙ length-append s t in
    elim h [
      | inl unfinished ↦ elim unfinished [
        | inl short ↦ omega (arith, short, size, p.at_least_20)
        | inr part ↦ omega (arith, part.1, field, size)
      ]
      | inr faulty ↦ elim faulty.1 [
        | inl small ↦ omega (arith, small, field, p.at_least_20)
        | inr large ↦ omega (arith, large, field, p.at_most_4096)
      ]
    ]

-- two packets at the front of the same octets are one, and what stands behind them is the same
pub one_front : (s t p v : List ℕ) → s ++ t ≡ p ++ v → IsPacket s → IsPacket p → (s ≡ p) × (t ≡ v)
one_front s t p v e is_s is_p =
    let sizes : length s ≡ length p = sym (size_of_front s t is_s) ∙ ap length_field e ∙ size_of_front p v is_p in (
      sym (take-append_seam s t) ∙ ap₂ take sizes e ∙ take-append_seam p v,
      sym (drop-append_seam s t) ∙ ap₂ drop sizes e ∙ drop-append_seam p v,
    )

-- the first packet apart
apart : (s : List ℕ) (ss : List (List ℕ)) (u : List ℕ) → joined (s ∷ ss) ++ u ≡ s ++ (joined ss ++ u)
apart s ss u = append_assoc s (joined ss) u

-- packets, and octets at whose front no packet stands: both are determined
pub one_cutting :
    (a b : List (List ℕ)) (r s : List ℕ)
    → joined a ++ r ≡ joined b ++ s
    → AllByRecursion IsPacket a → AllByRecursion IsPacket b → HasNoPacket r → HasNoPacket s
    → (a ≡ b) × (r ≡ s)
one_cutting [] [] r s e ka kb hr hs = (refl, e)
one_cutting [] (y ∷ b) r s e ka kb hr hs =
    absurd (has_packet y (joined b ++ s) r (sym (e ∙ apart y b s)) kb.0 hr)
one_cutting (x ∷ a) [] r s e ka kb hr hs =
    absurd (has_packet x (joined a ++ r) s (sym (apart x a r) ∙ e) ka.0 hs)
one_cutting (x ∷ a) (y ∷ b) r s e ka kb hr hs =
    let front = one_front x (joined a ++ r) y (joined b ++ s) (sym (apart x a r) ∙ e ∙ apart y b s) ka.0 kb.0 in
    let rest = one_cutting a b r s front.1 ka.1 kb.1 hr hs in
    (ap₂ (λ z zs. z ∷ zs) front.0 rest.0, rest.1)

-- packets that were sent, and what is left, of octets with a cutting: the packets are a beginning of it
pub sent_is_beginning :
    (a b : List (List ℕ)) (u s : List ℕ)
    → joined a ++ u ≡ joined b ++ s
    → AllByRecursion IsPacket a → AllByRecursion IsPacket b → HasNoPacket s
    → (later : List (List ℕ)) × (b ≡ a ++ later) × Cuts u later s
sent_is_beginning [] b u s e ka kb hs = (b, refl, record { whole = e; each = kb; ends = hs })
sent_is_beginning (x ∷ a) [] u s e ka kb hs =
    absurd (has_packet x (joined a ++ u) s (sym (apart x a u) ∙ e) ka.0 hs)
sent_is_beginning (x ∷ a) (y ∷ b) u s e ka kb hs =
    let front = one_front x (joined a ++ u) y (joined b ++ s) (sym (apart x a u) ∙ e ∙ apart y b s) ka.0 kb.0 in
    let rest = sent_is_beginning a b u s front.1 ka.1 kb.1 hs in
    (rest.0, ap₂ (λ z zs. z ∷ zs) (sym front.0) rest.1, rest.2)

-- a packet that a look at the front finds is one, and stands before the others
pub front_is_packet : (u : List ℕ) (n : ℕ) → HasLength u → n ≡ length_field u → n ≤ length u → IsPacket (take n u)
front_is_packet u n h e le =
    let size : length (take n u) ≡ n = length-take-le n u le in
    let whole : take n u ++ drop n u ≡ u = take-append-drop n u in
    let field : length_field u ≡ length_field (take n u) =
    ap length_field (sym whole)
    ∙ length_field-append (take n u) (drop n u) (omega (arith, size, e, h.at_least_20)) in
    record {
      at_least_20 = omega (arith, size, e, h.at_least_20);
      at_most_4096 = omega (arith, size, e, h.at_most_4096);
      size = sym field ∙ sym e ∙ sym size;
    }
