-- Laws of the forwarded packet.
use Rattle.std.proofs.Common.{◌≡◌, ◌≢◌, ℕ, ◌+◌, ◌<◌, ◌≤◌, Bool, true, false, inl, inr, List, [], ◌∷◌, ◌++◌, map, subst, refl, sym, ap, ◌∙◌, arith}
use Rattle.std.specs.Prelude.{if◌then◌else◌, ◌==◌}
use Rattle.std.proofs.lemmas.Bool.{cases_Bool, both_ways, eqb-true, eq-eqb}
use Rattle.std.proofs.lemmas.List.{map-append}
use Rattle.roam_wire.specs.Packet.{Attribute, Packet, IsPacket, packet_length}
use Rattle.roam_wire.specs.declared.code.TheConstants.{ACCESS_REQUEST}
use Rattle.roam_crypto.specs.Authenticators.{AreSixteenOctets, zero_octets, request_authenticator, IsSignedRequest, signed_request}
use Rattle.roam_crypto.specs.MessageAuthenticator.{HasOneMessageAuthenticator, message_authenticator, attribute_with_value, IsWellSealed, StandsFirst}
use Rattle.roam_crypto.proofs.ValueLemmas.{packet_length-with_value, IsPacket-with_value, HasOne-with_value, StandsFirst-with_value}
use Rattle.roam_crypto.proofs.SealLemmas.{IsWellSealed-sealed, IsWellSealed-with_authenticator}
use Rattle.roam_crypto.proofs.DigestLemmas.{IsPacket-signed_request, sixteen-message_authenticator, length-message_authenticator}
use Rattle.roam_forward.specs.Forwarded.{Forwarding, access_growth, ticket_state, carried_attributes, unsealed, sealed, forwarded, forwarded_length, CanBeForwarded}
use Rattle.roam_forward.proofs.ForwardedLemmas.{with_ticket_and_zeros, length-with_ticket, IsPacket-with_ticket, HasAtMostOne-with_ticket, forwarded_length-is, sealed_request, forwarded-is}
use Rattle.roam_forward.proofs.AccessLemmas.{IsForwardableAccess, access_unsealed, length-access_unsealed, IsPacket-access_unsealed, HasOne-access_unsealed, forwarded-access, forwarded_length-access}

-- ---- a request that isn't an Access-Request

-- sealing leaves the length
length-sealed : (f : Forwarding) (q : Packet) → CanBeForwarded q →
    packet_length (sealed_request f q) ≡ packet_length (with_ticket_and_zeros f q)
length-sealed f q can =
    let p : Packet = with_ticket_and_zeros f q in
    packet_length-with_value (message_authenticator f.to_secret zero_octets p) p
    (length-message_authenticator f.to_secret zero_octets p)
    (HasAtMostOne-with_ticket f q can.message_authenticator)

pub length-forwarded : (f : Forwarding) (q : Packet) → CanBeForwarded q → q.code ≢ ACCESS_REQUEST →
    packet_length (forwarded f q) ≡ forwarded_length q
length-forwarded f q can other =
    let ticket : packet_length (with_ticket_and_zeros f q) ≡ packet_length q + 10 =
    omega (arith, length-with_ticket f q.attributes) in
    ap packet_length (forwarded-is f q other) ∙ length-sealed f q can ∙ ticket ∙ sym (forwarded_length-is q other)

pub IsPacket-forwarded : (f : Forwarding) (q : Packet) → f.id < 256 → IsPacket q → CanBeForwarded q →
    q.code ≢ ACCESS_REQUEST → IsPacket (forwarded f q)
IsPacket-forwarded f q id packet can other =
    let p : Packet = with_ticket_and_zeros f q in
    let limit = can.size in
    let short : packet_length q + 10 ≤ 4096 = omega (arith, limit, forwarded_length-is q other) in
    let is_sealed : IsPacket (sealed_request f q) =
    IsPacket-with_value (message_authenticator f.to_secret zero_octets p) p
    (sixteen-message_authenticator f.to_secret zero_octets p)
    (HasAtMostOne-with_ticket f q can.message_authenticator) (IsPacket-with_ticket f q id packet short) in
    let is_signed = IsPacket-signed_request f.to_secret (sealed_request f q) is_sealed in
    subst IsPacket (sym (forwarded-is f q other)) is_signed

-- a packet that is signed is a signed request
IsSignedRequest-signed : (secret : List ℕ) (p : Packet) → IsSignedRequest secret (signed_request secret p)
unfolding request_authenticator
IsSignedRequest-signed secret p = refl

pub IsSignedRequest-forwarded : (f : Forwarding) (q : Packet) → q.code ≢ ACCESS_REQUEST →
    IsSignedRequest f.to_secret (forwarded f q)
IsSignedRequest-forwarded f q other =
    subst (IsSignedRequest f.to_secret) (sym (forwarded-is f q other))
    (IsSignedRequest-signed f.to_secret (sealed_request f q))

pub IsWellSealed-forwarded : (f : Forwarding) (q : Packet) → CanBeForwarded q → q.code ≢ ACCESS_REQUEST →
    IsWellSealed f.to_secret (zero_octets ∷ []) (forwarded f q)
IsWellSealed-forwarded f q can other =
    let p : Packet = with_ticket_and_zeros f q in
    let at_most = HasAtMostOne-with_ticket f q can.message_authenticator in
    let well = IsWellSealed-sealed f.to_secret zero_octets p at_most in
    let still = IsWellSealed-with_authenticator f.to_secret (zero_octets ∷ [])
    (request_authenticator f.to_secret (sealed_request f q)) (sealed_request f q) well in
    subst (IsWellSealed f.to_secret (zero_octets ∷ [])) (sym (forwarded-is f q other)) still

-- ---- an Access-Request

-- it can be forwarded, as its attributes are
access_parts : (q : Packet) → IsPacket q → CanBeForwarded q → q.code ≡ ACCESS_REQUEST → IsForwardableAccess q
access_parts q packet can access = record {
  packet = packet;
  seal = can.message_authenticator;
  passwords = can.passwords access;
}

length-forwarded_access : (f : Forwarding) (q : Packet) → IsPacket q → CanBeForwarded q → q.code ≡ ACCESS_REQUEST →
    packet_length (forwarded f q) ≡ forwarded_length q
length-forwarded_access f q packet can access =
    let p : Packet = access_unsealed f q in
    let stays = packet_length-with_value (message_authenticator f.to_secret f.authenticator p) p
    (length-message_authenticator f.to_secret f.authenticator p) (inr (HasOne-access_unsealed f q)) in
    ap packet_length (forwarded-access f q access)
    ∙ stays
    ∙ length-access_unsealed f q (access_parts q packet can access)
    ∙ sym (forwarded_length-access q access)

IsPacket-forwarded_access : (f : Forwarding) (q : Packet) → f.id < 256 → IsPacket q → CanBeForwarded q →
    q.code ≡ ACCESS_REQUEST → AreSixteenOctets f.authenticator → IsPacket (forwarded f q)
IsPacket-forwarded_access f q id packet can access sixteen =
    let p : Packet = access_unsealed f q in
    let limit = can.size in
    let short : packet_length q + 10 + access_growth q ≤ 4096 =
    omega (arith, limit, forwarded_length-access q access) in
    let before = IsPacket-access_unsealed f q (access_parts q packet can access) id sixteen short in
    let after = IsPacket-with_value (message_authenticator f.to_secret f.authenticator p) p
    (sixteen-message_authenticator f.to_secret f.authenticator p) (inr (HasOne-access_unsealed f q)) before in
    subst IsPacket (sym (forwarded-access f q access)) after

IsWellSealed-forwarded_access : (f : Forwarding) (q : Packet) → q.code ≡ ACCESS_REQUEST →
    IsWellSealed f.to_secret (f.authenticator ∷ []) (forwarded f q)
IsWellSealed-forwarded_access f q access =
    let well = IsWellSealed-sealed f.to_secret f.authenticator (access_unsealed f q)
    (inr (HasOne-access_unsealed f q)) in
    subst (IsWellSealed f.to_secret (f.authenticator ∷ [])) (sym (forwarded-access f q access)) well

pub HasOne-forwarded_access : (f : Forwarding) (q : Packet) → q.code ≡ ACCESS_REQUEST →
    HasOneMessageAuthenticator (forwarded f q)
HasOne-forwarded_access f q access =
    let p : Packet = access_unsealed f q in
    let one = HasOne-with_value (message_authenticator f.to_secret f.authenticator p) p
    (length-message_authenticator f.to_secret f.authenticator p) (HasOne-access_unsealed f q) in
    subst HasOneMessageAuthenticator (sym (forwarded-access f q access)) one

pub authenticator-forwarded_access : (f : Forwarding) (q : Packet) → q.code ≡ ACCESS_REQUEST →
    (forwarded f q).authenticator ≡ f.authenticator
authenticator-forwarded_access f q access = ap (λ (p : Packet). p.authenticator) (forwarded-access f q access)

-- ---- every request

-- a code that isn't an Access-Request's
other_code : (q : Packet) → (q.code == ACCESS_REQUEST) ≡ false → q.code ≢ ACCESS_REQUEST
other_code q is_other = λ access. both_ways _ is_other (eq-eqb q.code ACCESS_REQUEST access)

pub length-forwarded_any : (f : Forwarding) (q : Packet) → IsPacket q → CanBeForwarded q →
    packet_length (forwarded f q) ≡ forwarded_length q
length-forwarded_any f q packet can =
    elim (cases_Bool (q.code == ACCESS_REQUEST)) [
      | inl is_access ↦ length-forwarded_access f q packet can (eqb-true q.code ACCESS_REQUEST is_access)
      | inr is_other ↦ length-forwarded f q can (other_code q is_other)
    ]

pub IsPacket-forwarded_any : (f : Forwarding) (q : Packet) → f.id < 256 → IsPacket q → CanBeForwarded q →
    (q.code ≡ ACCESS_REQUEST → AreSixteenOctets f.authenticator) → IsPacket (forwarded f q)
IsPacket-forwarded_any f q id packet can sixteen =
    elim (cases_Bool (q.code == ACCESS_REQUEST)) [
      | inl is_access ↦
          let access = eqb-true q.code ACCESS_REQUEST is_access in
          IsPacket-forwarded_access f q id packet can access (sixteen access)
      | inr is_other ↦ IsPacket-forwarded f q id packet can (other_code q is_other)
    ]

-- the Authenticator over which it is sealed
over_first : (b : Bool) (secret x y : List ℕ) (p : Packet) → b ≡ true → IsWellSealed secret (x ∷ []) p →
    IsWellSealed secret ((if b then x else y) ∷ []) p
over_first true secret x y p is_access h = h
over_first false secret x y p is_access h = absurd (cc)

over_second : (b : Bool) (secret x y : List ℕ) (p : Packet) → b ≡ false → IsWellSealed secret (y ∷ []) p →
    IsWellSealed secret ((if b then x else y) ∷ []) p
over_second true secret x y p is_other h = absurd (cc)
over_second false secret x y p is_other h = h

pub IsWellSealed-forwarded_any : (f : Forwarding) (q : Packet) → CanBeForwarded q →
    IsWellSealed f.to_secret ((if q.code == ACCESS_REQUEST then f.authenticator else zero_octets) ∷ []) (forwarded f q)
IsWellSealed-forwarded_any f q can =
    elim (cases_Bool (q.code == ACCESS_REQUEST)) [
      | inl is_access ↦
          let well = IsWellSealed-forwarded_access f q (eqb-true q.code ACCESS_REQUEST is_access) in
          over_first (q.code == ACCESS_REQUEST) f.to_secret f.authenticator zero_octets (forwarded f q) is_access well
      | inr is_other ↦
          let well = IsWellSealed-forwarded f q can (other_code q is_other) in
          over_second (q.code == ACCESS_REQUEST) f.to_secret f.authenticator zero_octets (forwarded f q) is_other well
    ]

-- what two packets share, either has
either_code : (b : Bool) (x y : Packet) (code : ℕ) → x.code ≡ code → y.code ≡ code → (if b then x else y).code ≡ code
either_code true x y code first second = first
either_code false x y code first second = second

either_id : (b : Bool) (x y : Packet) (id : ℕ) → x.id ≡ id → y.id ≡ id → (if b then x else y).id ≡ id
either_id true x y id first second = first
either_id false x y id first second = second

either_attributes : (b : Bool) (x y : Packet) (all : List Attribute) → x.attributes ≡ all → y.attributes ≡ all →
    (if b then x else y).attributes ≡ all
either_attributes true x y all first second = first
either_attributes false x y all first second = second

pub code-forwarded : (f : Forwarding) (q : Packet) → (forwarded f q).code ≡ q.code
unfolding forwarded
code-forwarded f q = either_code (q.code == ACCESS_REQUEST) (sealed f q) (signed_request f.to_secret (sealed f q))
    q.code refl refl

pub id-forwarded : (f : Forwarding) (q : Packet) → (forwarded f q).id ≡ f.id
unfolding forwarded
id-forwarded f q = either_id (q.code == ACCESS_REQUEST) (sealed f q) (signed_request f.to_secret (sealed f q)) f.id
    refl refl

-- another Value in the Message-Authenticator leaves the ticket
ticket_stays : (value : List ℕ) (f : Forwarding) (all : List Attribute) →
    map (attribute_with_value value) (all ++ ticket_state f.ticket ∷ []) ≡ map (attribute_with_value value) all
    ++ ticket_state f.ticket ∷ []
ticket_stays value f all = map-append (attribute_with_value value) all (ticket_state f.ticket ∷ [])

pub ticket-forwarded : (f : Forwarding) (q : Packet) → (before : List Attribute)
    × ((forwarded f q).attributes ≡ before ++ ticket_state f.ticket ∷ [])
unfolding forwarded
ticket-forwarded f q =
    let value : List ℕ = message_authenticator f.to_secret (unsealed f q).authenticator (unsealed f q) in
    let before : List Attribute = map (attribute_with_value value) (carried_attributes f q) in
    let stays : (sealed f q).attributes ≡ before ++ ticket_state f.ticket ∷ [] =
    ticket_stays value f (carried_attributes f q) in (
      before,
      either_attributes (q.code == ACCESS_REQUEST) (sealed f q) (signed_request f.to_secret (sealed f q))
          (before ++ ticket_state f.ticket ∷ []) stays stays,
    )

-- ---- the Message-Authenticator of an Access-Request stands first

pub first-forwarded : (f : Forwarding) (q : Packet) → q.code ≡ ACCESS_REQUEST → StandsFirst (forwarded f q)
first-forwarded f q access =
    let p : Packet = access_unsealed f q in
    let seal = message_authenticator f.to_secret f.authenticator p in
    subst StandsFirst (sym (forwarded-access f q access)) (StandsFirst-with_value seal p (_, _, refl))
