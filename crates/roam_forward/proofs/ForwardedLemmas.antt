-- The octets of a forwarded packet: the ticket behind the request's, another header, sealed, signed.
use Rattle.std.proofs.Common.{◌≡◌, ◌≢◌, ℕ, zero, suc, ◌+◌, ◌/◌, ◌%◌, ◌<◌, ◌≤◌, false, inl, inr, Option, List, [], ◌∷◌, ◌++◌, length, take, drop, subst, refl, sym, ap, ◌∙◌, arith, length-append}
use Rattle.std.specs.Prelude.{slice_index, IsSomeAnd}
use Rattle.std.specs.Int.{w64, to_be_bytes}
use Rattle.std.specs.List.{AllByRecursion}
use Rattle.std.proofs.lemmas.Bool.{cases_Bool, ne_eqb}
use Rattle.std.proofs.lemmas.List.{drop_at, flat_map_more, length-take}
use Rattle.roam_wire.specs.Packet.{AreOctets, Attribute, IsAttribute, Packet, IsPacket, attribute_text, attributes_text, packet_text, packet_length}
use Rattle.roam_wire.specs.Attributes.{has_kind, count_of, first_value}
use Rattle.roam_wire.specs.Reading.{IsPacketText, packet_of}
use Rattle.roam_wire.specs.declared.attribute_type.TheConstants.{MESSAGE_AUTHENTICATOR}
use Rattle.roam_wire.specs.declared.code.TheConstants.{ACCESS_REQUEST}
use Rattle.roam_wire.proofs.OctetLemmas.{AreOctets-zeros}
use Rattle.roam_wire.proofs.LawLemmas.{length-packet_text, AreTextOf, AreTextOf-packet_text}
use Rattle.roam_crypto.specs.Authenticators.{zero_octets, with_authenticator, request_authenticator}
use Rattle.roam_crypto.specs.MessageAuthenticator.{HasAtMostOneMessageAuthenticator, message_authenticator, with_message_authenticator}
use Rattle.roam_crypto.proofs.ValueLemmas.{IsPacket-with_value}
use Rattle.roam_crypto.proofs.DigestLemmas.{sixteen-message_authenticator}
use Rattle.roam_crypto.proofs.SealingLemmas.{count_of-append}
use Rattle.roam_forward.specs.Forwarded.{Forwarding, ticket_state, unsealed, forwarded, forwarded_length, CanBeForwarded}
use Rattle.roam_forward.specs.Rewriting.{request_in, IsRewritable}

-- ---- the ticket behind the attributes

-- the attributes with the ticket
abbrev pub with_ticket : Forwarding → List Attribute → List Attribute
with_ticket f all = all ++ ticket_state f.ticket ∷ []

-- their octets are ten more
pub length-with_ticket : (f : Forwarding) (all : List Attribute) →
    length (attributes_text (with_ticket f all)) ≡ length (attributes_text all) + 10
length-with_ticket f all =
    ap length (sym (flat_map_more attribute_text [] all (ticket_state f.ticket)))
    ∙ length-append (attributes_text all) (attribute_text (ticket_state f.ticket))

-- the eight octets of a ticket
AreOctets-ticket : (n : ℕ) → AreOctets (to_be_bytes w64 n)
AreOctets-ticket n zero = omega arith
AreOctets-ticket n (suc zero) = omega arith
AreOctets-ticket n (suc (suc zero)) = omega arith
AreOctets-ticket n (suc (suc (suc zero))) = omega arith
AreOctets-ticket n (suc (suc (suc (suc zero)))) = omega arith
AreOctets-ticket n (suc (suc (suc (suc (suc zero))))) = omega arith
AreOctets-ticket n (suc (suc (suc (suc (suc (suc zero)))))) = omega arith
AreOctets-ticket n (suc (suc (suc (suc (suc (suc (suc zero))))))) = omega arith
AreOctets-ticket n (suc (suc (suc (suc (suc (suc (suc (suc i)))))))) = omega arith

-- the ticket is an attribute, as those before it are
pub IsAttribute-with_ticket : (f : Forwarding) (all : List Attribute) → AllByRecursion IsAttribute all →
    AllByRecursion IsAttribute (with_ticket f all)
IsAttribute-with_ticket f [] h =
    (record { kind = omega arith; octets = AreOctets-ticket f.ticket; size = omega arith }, tt)
IsAttribute-with_ticket f (a ∷ all) h = (h.0, IsAttribute-with_ticket f all h.1)

-- the first Value of a Type stays where an attribute of another Type is added behind
first_value-push : (kind : ℕ) (all : List Attribute) (a : Attribute) → has_kind kind a ≡ false →
    first_value kind (all ++ a ∷ []) ≡ first_value kind all
first_value-push kind [] a other = rw other refl
first_value-push kind (x ∷ xs) a other =
    elim (cases_Bool (has_kind kind x)) [
      | inl found ↦ rw found refl
      | inr further ↦ rw further (first_value-push kind xs a other)
    ]

-- the ticket is no Message-Authenticator
pub count_of-with_ticket : (f : Forwarding) (all : List Attribute) →
    count_of MESSAGE_AUTHENTICATOR (with_ticket f all) ≡ count_of MESSAGE_AUTHENTICATOR all
count_of-with_ticket f all = omega (arith, count_of-append MESSAGE_AUTHENTICATOR all (ticket_state f.ticket ∷ []))

-- ---- a request that isn't an Access-Request, before it is sealed

-- its code, the new Identifier, zeros, its attributes and the ticket
abbrev pub with_ticket_and_zeros : Forwarding → Packet → Packet
with_ticket_and_zeros f q = record {
  code = q.code;
  id = f.id;
  authenticator = zero_octets;
  attributes = with_ticket f q.attributes;
}

pub unsealed-is : (f : Forwarding) (q : Packet) → q.code ≢ ACCESS_REQUEST → unsealed f q ≡ with_ticket_and_zeros f q
unsealed-is f q other = rw (ne_eqb q.code ACCESS_REQUEST other) refl

pub forwarded_length-is : (q : Packet) → q.code ≢ ACCESS_REQUEST → forwarded_length q ≡ packet_length q + 10
unfolding forwarded_length
forwarded_length-is q other = rw (ne_eqb q.code ACCESS_REQUEST other) (omega arith)

-- it is a packet where it isn't too long
pub IsPacket-with_ticket : (f : Forwarding) (q : Packet) → f.id < 256 → IsPacket q → packet_length q + 10 ≤ 4096 →
    IsPacket (with_ticket_and_zeros f q)
IsPacket-with_ticket f q id packet short = record {
  code = packet.code;
  id = id;
  octets = AreOctets-zeros 16;
  authenticator = refl;
  attributes = IsAttribute-with_ticket f q.attributes packet.attributes;
  size = omega (arith, length-with_ticket f q.attributes);
}

-- with at most one Message-Authenticator, as the request
pub HasAtMostOne-with_ticket : (f : Forwarding) (q : Packet) → HasAtMostOneMessageAuthenticator q →
    HasAtMostOneMessageAuthenticator (with_ticket_and_zeros f q)
HasAtMostOne-with_ticket f q h =
    elim h [
      | inl none ↦ inl (count_of-with_ticket f q.attributes ∙ none)
      | inr one ↦
          let same = first_value-push MESSAGE_AUTHENTICATOR q.attributes (ticket_state f.ticket) refl in
          inr (record {
            one = count_of-with_ticket f q.attributes ∙ one.one;
            size = subst (λ (v : Option (List ℕ)). IsSomeAnd v (λ value. length value ≡ 16)) (sym same) one.size;
          })
    ]

-- the header written over the request's, and the ticket behind it, are its octets
pub header_over : (f : Forwarding) (q : Packet) (octets : List ℕ) → IsPacket q →
    octets ≡ packet_text q ++ attribute_text (ticket_state f.ticket) →
    slice_index octets 0 ∷ f.id ∷ (length octets / 256) ∷ (length octets % 256) ∷ zero_octets ++ drop 20 octets
    ≡ packet_text (with_ticket_and_zeros f q)
header_over f q octets packet is =
    let added : List ℕ = attribute_text (ticket_state f.ticket) in
    let code : slice_index octets 0 ≡ q.code = ap (λ (t : List ℕ). slice_index t 0) is in
    let size : length octets ≡ packet_length (with_ticket_and_zeros f q) =
    omega (
      arith,
      ap length is,
      length-append (packet_text q) added,
      length-packet_text q packet,
      length-with_ticket f q.attributes,
    ) in
    let behind : drop 20 octets ≡ attributes_text (with_ticket f q.attributes) =
    ap (drop 20) is
    ∙ ap (drop 16) (flat_map_more attribute_text q.authenticator q.attributes (ticket_state f.ticket))
    ∙ drop_at q.authenticator (attributes_text (with_ticket f q.attributes)) 16 packet.authenticator in
    ap (λ (c : ℕ). c ∷ f.id ∷ (length octets / 256) ∷ (length octets % 256) ∷ zero_octets ++ drop 20 octets) code
    ∙ ap (λ (n : ℕ). q.code ∷ f.id ∷ (n / 256) ∷ (n % 256) ∷ zero_octets ++ drop 20 octets) size
    ∙ ap (λ (t : List ℕ). q.code ∷ f.id ∷ (packet_length (with_ticket_and_zeros f q) / 256) ∷
    (packet_length (with_ticket_and_zeros f q) % 256) ∷ zero_octets ++ t) behind

-- ---- sealed and signed

-- sealing the octets of a packet gives those of the packet sealed
pub sealed_text : (secret authenticator octets written : List ℕ) (p : Packet) → AreTextOf p octets → IsPacket p →
    HasAtMostOneMessageAuthenticator p →
    written ≡ packet_text (with_message_authenticator secret authenticator (packet_of octets)) →
    AreTextOf (with_message_authenticator secret authenticator p) written
sealed_text secret authenticator octets written p text packet at_most is =
    let value : List ℕ = message_authenticator secret authenticator p in
    let q : Packet = with_message_authenticator secret authenticator p in
    let is_packet : IsPacket q = IsPacket-with_value value p (sixteen-message_authenticator secret authenticator p)
    at_most packet in
    let same : written ≡ packet_text q =
    is ∙ ap (λ (x : Packet). packet_text (with_message_authenticator secret authenticator x)) text.packet in
    subst (AreTextOf q) (sym same) (AreTextOf-packet_text q is_packet)

-- signing them gives those of the packet signed
pub signed_text : (secret octets written : List ℕ) (p : Packet) → AreTextOf p octets →
    written ≡ packet_text (with_authenticator (request_authenticator secret (packet_of octets)) (packet_of octets)) →
    written ≡ packet_text (with_authenticator (request_authenticator secret p) p)
signed_text secret octets written p text is =
    is ∙ ap (λ (x : Packet). packet_text (with_authenticator (request_authenticator secret x) x)) text.packet

-- what is forwarded for a request that isn't an Access-Request
abbrev pub sealed_request : Forwarding → Packet → Packet
sealed_request f q = with_message_authenticator f.to_secret zero_octets (with_ticket_and_zeros f q)

pub forwarded-is : (f : Forwarding) (q : Packet) → q.code ≢ ACCESS_REQUEST →
    forwarded f q ≡ with_authenticator (request_authenticator f.to_secret (sealed_request f q)) (sealed_request f q)
unfolding forwarded
forwarded-is f q other = rw (ne_eqb q.code ACCESS_REQUEST other) refl

-- ---- a request that is rewritten in place

-- the first octets are a request's that can be forwarded and isn't an Access-Request, and there are as
-- many as the forwarded packet has
pub record CanBeRewritten (len : ℕ) (octets : List ℕ) : Type 0 where
  pub packet : IsPacketText (take len octets)
  pub can_be_forwarded : CanBeForwarded (packet_of (take len octets))
  pub size : length octets ≡ forwarded_length (packet_of (take len octets))
  pub other_code : (packet_of (take len octets)).code ≢ ACCESS_REQUEST

pub signed_held : (len : ℕ) (octets : List ℕ) → IsRewritable len octets →
    (request_in len octets).code ≢ ACCESS_REQUEST → CanBeRewritten len octets
signed_held len octets h other_code = record {
  packet = h.packet;
  can_be_forwarded = h.can_be_forwarded;
  size = h.size;
  other_code = other_code;
}

-- so ten octets stand behind the request
pub ten_behind : (len : ℕ) (octets : List ℕ) → CanBeRewritten len octets → len + 10 ≡ length octets
ten_behind len octets h =
    let q : Packet = packet_of (take len octets) in
    let here : length (take len octets) ≡ packet_length q = ap length h.packet.spelt
    ∙ length-packet_text q h.packet.packet in
    let grown = h.size ∙ forwarded_length-is q h.other_code in
    omega (arith, here, grown, length-take len octets)

-- and the forwarded packet isn't too long
pub short_enough : (len : ℕ) (octets : List ℕ) → CanBeRewritten len octets →
    packet_length (packet_of (take len octets)) + 10 ≤ 4096
short_enough len octets h =
    let limit = h.can_be_forwarded.size in
    omega (arith, limit, forwarded_length-is (packet_of (take len octets)) h.other_code)

-- with the ticket and the header they are the packet's before it is sealed
pub unsealed_text : (f : Forwarding) (len : ℕ) (octets ticketed written : List ℕ) → f.id < 256 →
    CanBeRewritten len octets → ticketed ≡ take len octets ++ attribute_text (ticket_state f.ticket) →
    written ≡ slice_index ticketed 0 ∷ f.id ∷ (length ticketed / 256) ∷ (length ticketed % 256) ∷ zero_octets
    ++ drop 20 ticketed → AreTextOf (with_ticket_and_zeros f (packet_of (take len octets))) written
unsealed_text f len octets ticketed written id h ticketed-is written-is =
    let q : Packet = packet_of (take len octets) in
    let p : Packet = with_ticket_and_zeros f q in
    let is_packet = IsPacket-with_ticket f q id h.packet.packet (short_enough len octets h) in
    let front : ticketed ≡ packet_text q ++ attribute_text (ticket_state f.ticket) =
    ticketed-is ∙ ap (λ (t : List ℕ). t ++ attribute_text (ticket_state f.ticket)) h.packet.spelt in
    let text : written ≡ packet_text p = written-is ∙ header_over f q ticketed h.packet.packet front in
    subst (AreTextOf p) (sym text) (AreTextOf-packet_text p is_packet)

-- sealed with the link's secret
pub resealed_text : (f : Forwarding) (len : ℕ) (octets before written : List ℕ) → f.id < 256 →
    CanBeRewritten len octets → AreTextOf (with_ticket_and_zeros f (packet_of (take len octets))) before →
    written ≡ packet_text (with_message_authenticator f.to_secret zero_octets (packet_of before)) →
    AreTextOf (sealed_request f (packet_of (take len octets))) written
resealed_text f len octets before written id h text is =
    let q : Packet = packet_of (take len octets) in
    sealed_text f.to_secret zero_octets before written (with_ticket_and_zeros f q) text
    (IsPacket-with_ticket f q id h.packet.packet (short_enough len octets h))
    (HasAtMostOne-with_ticket f q h.can_be_forwarded.message_authenticator) is

-- and signed with it, they are the forwarded packet's
pub forwarded_text : (f : Forwarding) (len : ℕ) (octets before written : List ℕ) → CanBeRewritten len octets →
    AreTextOf (sealed_request f (packet_of (take len octets))) before →
    written ≡ packet_text (with_authenticator (request_authenticator f.to_secret (packet_of before))
    (packet_of before)) → written ≡ packet_text (forwarded f (packet_of (take len octets)))
forwarded_text f len octets before written h text is =
    let q : Packet = packet_of (take len octets) in
    signed_text f.to_secret before written (sealed_request f q) text is
    ∙ sym (ap packet_text (forwarded-is f q h.other_code))
