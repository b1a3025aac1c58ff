-- Parts that were put behind one another are found again.
use Rattle.std.proofs.Common.{◌≡◌, ℕ, ◌+◌, ◌≤◌, List, [], ◌∷◌, ◌++◌, length, take, drop, Option, Some, None, refl, ap, ◌∙◌, arith, append_assoc, length-append}
use Rattle.roam_sessions.specs.Private.Packed.{AreParts, behind, count_of, front_of, octets_of, session_in, size_of}

take-front : (front rest : List ℕ) → take (length front) (front ++ rest) ≡ front
take-front [] rest = refl
take-front (x ∷ xs) rest = ap (λ (l : List ℕ). x ∷ l) (take-front xs rest)

drop-front : (front rest : List ℕ) → drop (length front) (front ++ rest) ≡ rest
drop-front [] rest = refl
drop-front (x ∷ xs) rest = drop-front xs rest

front-is : (part : Option (List ℕ)) (rest : List ℕ) → front_of (size_of part) (octets_of part ++ rest) ≡ part
front-is None rest = refl
front-is (Some octets) rest = ap (λ (l : List ℕ). Some l) (take-front octets rest)

behind-is : (part : Option (List ℕ)) (rest : List ℕ) → behind (size_of part) (octets_of part ++ rest) ≡ rest
behind-is None rest = refl
behind-is (Some octets) rest = drop-front octets rest

pub size-is : (part : Option (List ℕ)) → count_of (size_of part) ≡ length (octets_of part)
size-is None = refl
size-is (Some octets) = refl

pub packed-is : (peer : ℕ) (a i v : Option (List ℕ)) (id octets : List ℕ)
    → octets ≡ octets_of a ++ (octets_of i ++ (octets_of v ++ id))
    → session_in peer (size_of a) (size_of i) (size_of v) octets
    ≡ record { peer = peer; nas = record { address = a; identifier = i; ipv6 = v }; id = id }
packed-is peer a i v id octets is =
    rw (
      is,
      front-is a (octets_of i ++ (octets_of v ++ id)),
      behind-is a (octets_of i ++ (octets_of v ++ id)),
      front-is i (octets_of v ++ id),
      behind-is i (octets_of v ++ id),
      front-is v id,
      behind-is v id,
    ) refl

-- behind each other, as they were put
pub behind-each-other : (none one two three four a i v id : List ℕ) → none ≡ [] → one ≡ none ++ a → two ≡ one ++ i
    → three ≡ two ++ v → four ≡ three ++ id → four ≡ a ++ (i ++ (v ++ id))
behind-each-other none one two three four a i v id n o t h f =
    f ∙ ap (λ (l : List ℕ). l ++ id) (h ∙ ap (λ (l : List ℕ). l ++ v) (t ∙ ap (λ (l : List ℕ). l ++ i)
    (o ∙ ap (λ (l : List ℕ). l ++ a) n)))
    ∙ append_assoc (a ++ i) v id ∙ append_assoc a i (v ++ id)

pub are-parts : (a i v : Option (List ℕ)) (id octets : List ℕ)
    → octets ≡ octets_of a ++ (octets_of i ++ (octets_of v ++ id)) → count_of (size_of a) ≤ 253
    → count_of (size_of i) ≤ 253 → count_of (size_of v) ≤ 253 → length id ≤ 253
    → AreParts (size_of a) (size_of i) (size_of v) octets
are-parts a i v id octets is sa si sv sid =
    let all : length octets ≡ length (octets_of a ++ (octets_of i ++ (octets_of v ++ id))) =
    ap (λ (l : List ℕ). length l) is in
    let first = length-append (octets_of a) (octets_of i ++ (octets_of v ++ id)) in
    let second = length-append (octets_of i) (octets_of v ++ id) in
    let third = length-append (octets_of v) id in
    let na = size-is a in
    let ni = size-is i in
    let nv = size-is v in
    record {
      short_address = sa;
      short_identifier = si;
      short_ipv6 = sv;
      names = omega (arith, all, first, second, third, na, ni, nv);
      short_id = omega (arith, all, first, second, third, na, ni, nv, sid);
    }
