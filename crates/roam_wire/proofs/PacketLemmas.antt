-- The octets of a packet, and the packet of octets.
use Rattle.std.proofs.Common.{suc, ◌≡◌, ℕ, ◌+◌, ◌*◌, ◌/◌, ◌%◌, ◌<◌, ◌≤◌, List, [], ◌∷◌, ◌++◌, length, get_or, take, drop, subst, Option, Some, None, IsSome, refl, sym, ap, ◌∙◌, arith, length-drop, length-append}
use Rattle.std.proofs.lemmas.List.{take-append-drop, take_at, drop_at, length-take, get_or-take, take_all}
use Rattle.roam_wire.specs.Packet.{AreOctets, Attribute, Packet, IsPacket, attributes_text, packet_text, packet_length}
use Rattle.roam_wire.specs.Reading.{IsPacketText, ReadsAs, attributes_of, packet_of, length_field, HasLength}
use Rattle.roam_wire.proofs.OctetLemmas.{AreOctets-take, AreOctets-drop}
use Rattle.roam_wire.proofs.AttributeLemmas.{read_spells, attributes_of-attributes_text}

-- a packet is read again from its octets
pub packet_of-packet_text : (p : Packet) → IsPacket p → packet_of (packet_text p) ≡ p
unfolding packet_of
packet_of-packet_text p h =
    rw (
      take_at p.authenticator (attributes_text p.attributes) 16 h.authenticator,
      drop_at p.authenticator (attributes_text p.attributes) 16 h.authenticator,
      attributes_of-attributes_text p.attributes h.attributes,
    ) refl

-- behind the header stand the attributes
pub attributes_of-packet_text : (p : Packet) → IsPacket p → attributes_of (drop 20 (packet_text p)) ≡ Some p.attributes
attributes_of-packet_text p h =
    rw (
      drop_at p.authenticator (attributes_text p.attributes) 16 h.authenticator,
      attributes_of-attributes_text p.attributes h.attributes,
    ) refl

pub length-packet_text : (p : Packet) → IsPacket p → length (packet_text p) ≡ packet_length p
length-packet_text p h = omega (arith, length-append p.authenticator (attributes_text p.attributes), h.authenticator)

-- the octets of a packet are a packet's
pub IsPacketText-packet_text : (p : Packet) → IsPacket p → IsPacketText (packet_text p)
IsPacketText-packet_text p h =
    let again = packet_of-packet_text p h in
    record { packet = subst IsPacket (sym again) h; spelt = ap packet_text (sym again) }

-- the list of what is some list
list_of : (o : Option (List Attribute)) → IsSome o → (all : List Attribute) × (o ≡ Some all)
list_of None h = absurd (cc)
list_of (Some all) h = (all, refl)

-- a header of the right Length, and attributes, are a packet's octets
header_and_attributes : (a b c e : ℕ) (rest : List ℕ) (all : List Attribute) → AreOctets (a ∷ b ∷ c ∷ e ∷ rest) →
    16 ≤ length rest → length rest ≤ 4092 → 256 * c + e ≡ length rest + 4 → attributes_of (drop 16 rest) ≡ Some all →
    IsPacketText (a ∷ b ∷ c ∷ e ∷ rest)
unfolding packet_of
header_and_attributes a b c e rest all fits low high field found =
    let fit : AreOctets (drop 16 rest) = AreOctets-drop 20 (a ∷ b ∷ c ∷ e ∷ rest) fits in
    let read = read_spells (length (drop 16 rest)) (drop 16 rest) all (omega arith) fit found in
    let size : 20 + length (attributes_text all) ≡ 256 * c + e =
    rw (← read.spelt) (omega (arith, length-drop 16 rest)) in
    let octet : e < 256 = fits 3 in
    let p : Packet = record { code = a; id = b; authenticator = take 16 rest; attributes = all } in
    let is_p : packet_of (a ∷ b ∷ c ∷ e ∷ rest) ≡ p = rw found refl in
    let behind : AreOctets rest = λ i. fits (suc (suc (suc (suc i)))) in
    let packet : IsPacket p = record {
      code = fits 0;
      id = fits 1;
      octets = AreOctets-take 16 rest behind;
      authenticator = omega (arith, length-take 16 rest);
      attributes = read.attributes;
      size = omega arith;
    } in
    let high_octet : packet_length p / 256 ≡ c = omega arith in
    let low_octet : packet_length p % 256 ≡ e = omega arith in
    let tail : take 16 rest ++ attributes_text all ≡ rest = rw (← read.spelt) (take-append-drop 16 rest) in
    let spelt : packet_text p ≡ a ∷ b ∷ c ∷ e ∷ rest =
    ap (λ (t : List ℕ). a ∷ b ∷ (packet_length p / 256) ∷ (packet_length p % 256) ∷ t) tail
    ∙ rw (high_octet, low_octet) refl in
    record { packet = subst IsPacket (sym is_p) packet; spelt = sym (ap packet_text is_p ∙ spelt) }

-- octets whose Length is their number, and that are attributes behind the header
pub IsPacketText-octets : (octets : List ℕ) → AreOctets octets → 20 ≤ length octets → length octets ≤ 4096 →
    length_field octets ≡ length octets → IsSome (attributes_of (drop 20 octets)) → IsPacketText octets
IsPacketText-octets [] fits low high field h = absurd (omega arith)
IsPacketText-octets (a ∷ []) fits low high field h = absurd (omega arith)
IsPacketText-octets (a ∷ b ∷ []) fits low high field h = absurd (omega arith)
IsPacketText-octets (a ∷ b ∷ c ∷ []) fits low high field h = absurd (omega arith)
IsPacketText-octets (a ∷ b ∷ c ∷ e ∷ rest) fits low high field h =
    let all = list_of (attributes_of (drop 16 rest)) h in
    header_and_attributes a b c e rest all.0 fits (omega arith) (omega arith) (omega arith) all.1

-- as many octets as the Length field says
abbrev pub front : List ℕ → List ℕ
front datagram = take (length_field datagram) datagram

-- the front of a datagram has the datagram's Length field
length_field-front : (datagram : List ℕ) → 4 ≤ length_field datagram →
    length_field (front datagram) ≡ length_field datagram
length_field-front datagram four =
    let third : get_or (front datagram) 2 0 ≡ get_or datagram 2 0 =
    get_or-take (length_field datagram) datagram 2 0 (omega arith) in
    let fourth : get_or (front datagram) 3 0 ≡ get_or datagram 3 0 =
    get_or-take (length_field datagram) datagram 3 0 (omega arith) in
    omega arith

-- a front that is a header and attributes is a packet's octets
pub IsPacketText-front : (datagram : List ℕ) → AreOctets datagram → HasLength datagram →
    IsSome (attributes_of (drop 20 (front datagram))) → IsPacketText (front datagram)
IsPacketText-front datagram fits h some =
    let low = h.at_least_header in
    let high = h.at_most_4096 in
    let came = h.all_came in
    let size : length (front datagram) ≡ length_field datagram =
    omega (arith, length-take (length_field datagram) datagram) in
    let same = length_field-front datagram (omega arith) in
    IsPacketText-octets (front datagram) (AreOctets-take (length_field datagram) datagram fits) (omega arith)
    (omega arith) (omega arith) some

-- what follows where a datagram reads as a packet
pub record Follows (datagram : List ℕ) (p : Packet) : Type 0 where
  pub length : HasLength datagram
  pub attributes : IsSome (attributes_of (drop 20 (front datagram)))
  pub packet : packet_of (front datagram) ≡ p

pub ReadsAs-follows : (datagram : List ℕ) (p : Packet) → ReadsAs datagram p → Follows datagram p
ReadsAs-follows datagram p reads =
    let size : length (front datagram) ≡ packet_length p = ap length reads.front ∙ length-packet_text p reads.packet in
    let took = length-take (length_field datagram) datagram in
    let same = length_field-front datagram (omega arith) in
    let third : get_or (front datagram) 2 0 ≡ packet_length p / 256 = ap (λ (t : List ℕ). get_or t 2 0) reads.front in
    let fourth : get_or (front datagram) 3 0 ≡ packet_length p % 256 = ap (λ (t : List ℕ). get_or t 3 0) reads.front in
    let field : length_field datagram ≡ packet_length p = omega arith in
    let limit = reads.packet.size in
    let some : IsSome (attributes_of (drop 20 (packet_text p))) = rw (attributes_of-packet_text p reads.packet) refl in
    record {
      length = record { at_least_header = omega arith; at_most_4096 = omega arith; all_came = omega arith };
      attributes = subst (λ (t : List ℕ). IsSome (attributes_of (drop 20 t))) (sym reads.front) some;
      packet = ap packet_of reads.front ∙ packet_of-packet_text p reads.packet;
    }

-- octets of a packet have its attributes behind the header
pub attributes_of-octets : (octets : List ℕ) → IsPacketText octets →
    attributes_of (drop 20 octets) ≡ Some (packet_of octets).attributes
attributes_of-octets octets h =
    subst (λ (t : List ℕ). attributes_of (drop 20 t) ≡ Some (packet_of octets).attributes) (sym h.spelt)
    (attributes_of-packet_text (packet_of octets) h.packet)

-- each attribute takes two octets at least
length-attributes_text : (all : List Attribute) → 2 * length all ≤ length (attributes_text all)
length-attributes_text [] = omega arith
length-attributes_text (a ∷ all) =
    omega (
      arith,
      length-attributes_text all,
      length-append (a.kind ∷ (length a.value + 2) ∷ a.value) (attributes_text all),
    )

-- so a packet has at most 2038
pub length-attributes : (p : Packet) → IsPacket p → length p.attributes ≤ 2038
length-attributes p h =
    let limit = h.size in
    omega (arith, length-attributes_text p.attributes)

-- the Length field of a packet's octets is their number
length_field-packet_text : (p : Packet) → length_field (packet_text p) ≡ packet_length p
length_field-packet_text p = omega arith

-- a packet's octets read as that packet
pub ReadsAs-packet_text : (p : Packet) → IsPacket p → ReadsAs (packet_text p) p
ReadsAs-packet_text p h =
    let size = length-packet_text p h in
    let all : take (length_field (packet_text p)) (packet_text p) ≡ packet_text p =
    take_all (length_field (packet_text p)) (packet_text p) (omega (arith, length_field-packet_text p)) in
    record { has_header = omega arith; packet = h; front = all }

-- octets that are a packet's read as it
pub ReadsAs-octets : (octets : List ℕ) → IsPacketText octets → ReadsAs octets (packet_of octets)
ReadsAs-octets octets h =
    subst (λ (t : List ℕ). ReadsAs t (packet_of octets)) (sym h.spelt) (ReadsAs-packet_text (packet_of octets) h.packet)
