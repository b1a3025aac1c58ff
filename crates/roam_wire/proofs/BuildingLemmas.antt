-- The octets of a packet that is built attribute by attribute.
use Rattle.std.proofs.Common.{◌≡◌, ℕ, ◌+◌, ◌<◌, ◌/◌, ◌%◌, ◌≤◌, List, [], ◌∷◌, ◌++◌, length, subst, sym, ap, ◌∙◌, arith, length-append}
use Rattle.std.specs.Prelude.{slice_set}
use Rattle.std.specs.List.{AllByRecursion}
use Rattle.std.proofs.lemmas.List.{flat_map_more, append-nil}
use Rattle.roam_wire.specs.Packet.{Attribute, IsAttribute, Packet, IsPacket, AreOctets, attribute_text, attributes_text, packet_text, packet_length}
use Rattle.roam_wire.specs.Reading.{IsPacketText, packet_of}
use Rattle.roam_wire.specs.Building.{header_of, with_attribute}
use Rattle.roam_wire.proofs.PacketLemmas.{packet_of-packet_text, IsPacketText-packet_text, length-packet_text}

-- octets that are this packet's
pub record AreTextOf (p : Packet) (octets : List ℕ) : Type 0 where
  pub text : IsPacketText octets
  pub packet : packet_of octets ≡ p

-- a packet's octets are that packet's
pub AreTextOf-packet_text : (p : Packet) → IsPacket p → AreTextOf p (packet_text p)
AreTextOf-packet_text p h = record { text = IsPacketText-packet_text p h; packet = packet_of-packet_text p h }

-- a header alone is a packet
pub header_alone : (code id : ℕ) (authenticator : List ℕ) → code < 256 → id < 256 → AreOctets authenticator →
    length authenticator ≡ 16 → AreTextOf (header_of code id authenticator) (code ∷ id ∷ 0 ∷ 20 ∷ authenticator)
header_alone code id authenticator code_fits id_fits octets h =
    let p = header_of code id authenticator in
    let spelt : packet_text p ≡ code ∷ id ∷ 0 ∷ 20 ∷ authenticator =
    ap (λ (t : List ℕ). code ∷ id ∷ 0 ∷ 20 ∷ t) (append-nil authenticator) in
    subst (AreTextOf p) spelt (AreTextOf-packet_text p
    (record {
      code = code_fits;
      id = id_fits;
      octets = octets;
      authenticator = h;
      attributes = tt;
      size =
          omega arith;
    }))

-- one attribute more is an attribute too
AllByRecursion-push : (all : List Attribute) (a : Attribute) → AllByRecursion IsAttribute all → IsAttribute a →
    AllByRecursion IsAttribute (all ++ a ∷ [])
AllByRecursion-push [] a h fits = (fits, tt)
AllByRecursion-push (x ∷ xs) a h fits = (h.0, AllByRecursion-push xs a h.1 fits)

-- the octets of attributes, with one more
attributes_text-push : (all : List Attribute) (a : Attribute) →
    attributes_text all ++ attribute_text a ≡ attributes_text (all ++ a ∷ [])
attributes_text-push all a = flat_map_more attribute_text [] all a

-- the size of a packet with one attribute more
pub packet_length-with_attribute : (kind : ℕ) (value : List ℕ) (p : Packet) →
    packet_length (with_attribute kind value p) ≡ packet_length p + 2 + length value
packet_length-with_attribute kind value p =
    let a : Attribute = record { kind = kind; value = value } in
    rw (← attributes_text-push p.attributes a)
    (omega (arith, length-append (attributes_text p.attributes) (attribute_text a)))

-- appending an attribute and writing the Length anew gives the octets of the packet with it
pub attribute_appended : (kind : ℕ) (value octets : List ℕ) (size : ℕ) → IsPacketText octets → kind < 256 →
    AreOctets value → length value ≤ 253 → size ≡ length octets + 2 + length value → size ≤ 4096 →
    AreTextOf (with_attribute kind value (packet_of octets))
    (slice_set (slice_set (octets ++ attribute_text (record { kind = kind; value = value })) 2 (size / 256)) 3
    (size % 256))
attribute_appended kind value octets size text kind_fits value_fits short size-is limit =
    let p = packet_of octets in
    let a : Attribute = record { kind = kind; value = value } in
    let q = with_attribute kind value p in
    let now_long : packet_length q ≡ size =
    omega (
      arith,
      packet_length-with_attribute kind value p,
      length-packet_text p text.packet,
      ap length text.spelt,
    ) in
    let is_packet : IsPacket q = record {
      code = text.packet.code;
      id = text.packet.id;
      octets = text.packet.octets;
      authenticator = text.packet.authenticator;
      attributes = AllByRecursion-push p.attributes a text.packet.attributes
          (record { kind = kind_fits; octets = value_fits; size = short });
      size = omega arith;
    } in
    let tail : (p.authenticator ++ attributes_text p.attributes) ++ attribute_text a ≡ p.authenticator
    ++ attributes_text (p.attributes ++ a ∷ []) =
    flat_map_more attribute_text p.authenticator p.attributes a in
    let spelt : slice_set (slice_set (octets ++ attribute_text a) 2 (size / 256)) 3 (size % 256) ≡ packet_text q =
    ap (λ (o : List ℕ). slice_set (slice_set (o ++ attribute_text a) 2 (size / 256)) 3 (size % 256)) text.spelt
    ∙ ap (λ (t : List ℕ). p.code ∷ p.id ∷ (size / 256) ∷ (size % 256) ∷ t) tail
    ∙ ap (λ (n : ℕ). p.code ∷ p.id ∷ (n / 256) ∷ (n % 256) ∷ p.authenticator
    ++ attributes_text (p.attributes ++ a ∷ [])) (sym now_long) in
    subst (AreTextOf q) (sym spelt) (AreTextOf-packet_text q is_packet)
