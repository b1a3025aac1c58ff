-- Lists of octets.
use Rattle.std.proofs.Common.{ℕ, zero, suc, ◌+◌, ◌/◌, ◌%◌, ◌<◌, List, [], ◌∷◌, ◌++◌, length, take, drop, replicate, inl, inr, arith}
use Rattle.std.specs.List.{AllByRecursion}
use Rattle.std.proofs.lemmas.Bool.{cases_lt}
use Rattle.std.proofs.lemmas.List.{get_or-take, get_or_past, get_or-drop, length-take}
use Rattle.roam_wire.specs.Packet.{Attribute, IsAttribute, Packet, IsPacket, AreOctets, attribute_text, attributes_text, packet_text, packet_length}

pub AreOctets-empty : AreOctets []
AreOctets-empty i = omega arith

pub AreOctets-cons : (x : ℕ) (xs : List ℕ) → x < 256 → AreOctets xs → AreOctets (x ∷ xs)
AreOctets-cons x xs here behind zero = here
AreOctets-cons x xs here behind (suc i) = behind i

pub AreOctets-behind : (x : ℕ) (xs : List ℕ) → AreOctets (x ∷ xs) → AreOctets xs
AreOctets-behind x xs h i = h (suc i)

pub AreOctets-append : (xs ys : List ℕ) → AreOctets xs → AreOctets ys → AreOctets (xs ++ ys)
AreOctets-append [] ys h k = k
AreOctets-append (x ∷ xs) ys h k =
    AreOctets-cons x (xs ++ ys) (h 0) (AreOctets-append xs ys (AreOctets-behind x xs h) k)

pub AreOctets-drop : (n : ℕ) (octets : List ℕ) → AreOctets octets → AreOctets (drop n octets)
AreOctets-drop n octets h i = rw get_or-drop (h (n + i))

pub AreOctets-take : (n : ℕ) (octets : List ℕ) → AreOctets octets → AreOctets (take n octets)
AreOctets-take n octets h i =
    elim (cases_lt i n) [
      | inl lt ↦ rw (get_or-take n octets i 0 lt) (h i)
      | inr le ↦ rw (get_or_past (take n octets) i 0 (omega (arith, length-take n octets))) (omega arith)
    ]

pub AreOctets-zeros : (n : ℕ) → AreOctets (replicate n 0)
AreOctets-zeros zero = AreOctets-empty
AreOctets-zeros (suc n) = AreOctets-cons 0 (replicate n 0) (omega arith) (AreOctets-zeros n)

-- an attribute's octets are octets
pub AreOctets-attribute_text : (a : Attribute) → IsAttribute a → AreOctets (attribute_text a)
AreOctets-attribute_text a h =
    let limit = h.size in
    AreOctets-cons a.kind ((length a.value + 2) ∷ a.value) h.kind
    (AreOctets-cons (length a.value + 2) a.value (omega arith) h.octets)

pub AreOctets-attributes_text : (all : List Attribute) → AllByRecursion IsAttribute all →
    AreOctets (attributes_text all)
AreOctets-attributes_text [] h = AreOctets-empty
AreOctets-attributes_text (a ∷ all) h =
    AreOctets-append (attribute_text a) (attributes_text all) (AreOctets-attribute_text a h.0)
    (AreOctets-attributes_text all h.1)

-- and so are a packet's
pub AreOctets-packet_text : (p : Packet) → IsPacket p → AreOctets (packet_text p)
AreOctets-packet_text p h =
    let limit = h.size in
    let attributes = AreOctets-append p.authenticator (attributes_text p.attributes) h.octets
    (AreOctets-attributes_text p.attributes h.attributes) in
    let n : ℕ = packet_length p in
    let low = AreOctets-cons (n % 256) (p.authenticator ++ attributes_text p.attributes) (omega arith) attributes in
    let high = AreOctets-cons (n / 256) ((n % 256) ∷ p.authenticator ++ attributes_text p.attributes) (omega arith)
    low in
    let id = AreOctets-cons p.id ((n / 256) ∷ (n % 256) ∷ p.authenticator ++ attributes_text p.attributes) h.id high in
    AreOctets-cons p.code (p.id ∷ (n / 256) ∷ (n % 256) ∷ p.authenticator ++ attributes_text p.attributes) h.code id
