-- The NAK: what it carries, its size, and where it stands in a buffer.
use Rattle.std.proofs.Common.{◌≡◌, ◌≢◌, ℕ, zero, suc, ◌<◌, Bool, true, false, inl, inr, List, ◌++◌, length, take, drop, refl, sym, ap, subst, ◌∙◌, arith}
use Rattle.std.specs.Prelude.{◌==◌, if◌then◌else◌}
use Rattle.std.specs.Int.{w32, to_be_bytes}
use Rattle.std.proofs.lemmas.Bool.{cases_Bool, eqb-true}
use Rattle.std.proofs.lemmas.Nat.{from_be_bytes-to_be_bytes_4}
use Rattle.std.proofs.lemmas.List.{take_at, drop_at}
use Rattle.roam_wire.specs.Packet.{AreOctets, IsAttribute, Packet, IsPacket, packet_text}
use Rattle.roam_wire.specs.Reading.{packet_of}
use Rattle.roam_wire.specs.Attributes.{has_kind}
use Rattle.roam_wire.specs.declared.attribute_type.TheConstants.{PROXY_STATE, MESSAGE_AUTHENTICATOR, ERROR_CAUSE}
use Rattle.roam_wire.specs.declared.code.TheConstants.{DISCONNECT_REQUEST, COA_REQUEST}
use Rattle.roam_wire.proofs.LawLemmas.{AreTextOf, AreTextOf-packet_text}
use Rattle.roam_crypto.specs.Authenticators.{response_authenticator, signed_reply}
use Rattle.roam_crypto.proofs.DigestLemmas.{IsPacket-signed_reply}
use Rattle.roam_crypto.proofs.ValueLemmas.{count_of-no, count_of-yes}
use Rattle.roam_reply.specs.Returned.{proxy_states}
use Rattle.roam_reply.specs.Nak.{error_cause, unsigned_nak, nak, nak_length}
use Rattle.roam_reply.specs.NakLaws.{CanBeRefused, NakIsPacket, NakHasLength, NakIsShort, NakAnswers, NakHasIdentifier, NakIsSigned, NakHasNoSeal, NakHasOneCause, NakTellsCause, NakHasProxyStates, NakHasNothingElse, NothingElseCounts}
use Rattle.roam_wire.proofs.KeptLemmas.{length-kept_text}
use Rattle.roam_reply.proofs.ReturnedLemmas.{count_of-only, short_kept}
use Rattle.roam_reply.proofs.EveryCodeLemmas.{only-only, seal_apart}

-- ---- its size

pub nak_length-is : NakHasLength
unfolding nak nak_length
nak_length-is secret cause request = omega arith

pub nak_length-at_most : NakIsShort
unfolding nak_length
nak_length-at_most request = omega (arith, length-kept_text (has_kind PROXY_STATE) request.attributes)

-- ---- what it carries

pub proxy_states-nak : NakHasProxyStates
unfolding nak
proxy_states-nak secret cause request = only-only PROXY_STATE request.attributes

cause_apart : ERROR_CAUSE ≢ PROXY_STATE
cause_apart e = absurd (omega (arith, e))

pub one_cause-nak : NakHasOneCause
unfolding nak
one_cause-nak secret cause request =
    omega (
      arith,
      count_of-yes ERROR_CAUSE (error_cause cause) (proxy_states request) refl,
      count_of-only ERROR_CAUSE PROXY_STATE request.attributes cause_apart,
    )

pub cause-nak : NakTellsCause
unfolding nak
cause-nak secret cause request short =
    (to_be_bytes w32 cause, refl, refl, from_be_bytes-to_be_bytes_4 cause short)

pub no_seal-nak : NakHasNoSeal
unfolding nak
no_seal-nak secret cause request =
    count_of-no MESSAGE_AUTHENTICATOR (error_cause cause) (proxy_states request) refl
    ∙ count_of-only MESSAGE_AUTHENTICATOR PROXY_STATE request.attributes seal_apart

pub alike-nak : NothingElseCounts
unfolding nak
alike-nak secret cause request other alike =
    rw (alike.code, alike.id, alike.authenticator, alike.proxy_states) refl

pub nothing_else-nak : NakHasNothingElse
unfolding nak
nothing_else-nak secret cause request = refl

-- ---- its code, Identifier and Authenticator

pub id-nak : NakHasIdentifier
unfolding nak
id-nak secret cause request = refl

pub IsSignedReply-nak : NakIsSigned
unfolding nak response_authenticator
IsSignedReply-nak secret cause request = refl

pub answers-nak : NakAnswers
unfolding nak
answers-nak secret cause request reverse =
    elim (cases_Bool (request.code == DISCONNECT_REQUEST)) [
      | inl disconnect ↦ rw (eqb-true request.code DISCONNECT_REQUEST disconnect) refl
      | inr other ↦
          let coa : (request.code == COA_REQUEST) ≡ true = rw other at reverse in
          rw (eqb-true request.code COA_REQUEST coa) refl
    ]

-- ---- it is a packet

code_octet : (disconnect : Bool) → (if disconnect then 42 else 45) < 256
code_octet true = omega arith
code_octet false = omega arith

cause_octets : (cause : ℕ) → AreOctets (to_be_bytes w32 cause)
cause_octets cause zero = omega arith
cause_octets cause (suc zero) = omega arith
cause_octets cause (suc (suc zero)) = omega arith
cause_octets cause (suc (suc (suc zero))) = omega arith
cause_octets cause (suc (suc (suc (suc i)))) = omega arith

IsAttribute-cause : (cause : ℕ) → IsAttribute (error_cause cause)
IsAttribute-cause cause = record { kind = omega arith; octets = cause_octets cause; size = omega arith }

pub IsPacket-unsigned : (cause : ℕ) (request : Packet) → CanBeRefused request
    → IsPacket (unsigned_nak cause request)
unfolding nak_length
IsPacket-unsigned cause request h =
    let fits = h.short in
    record {
      code = code_octet (request.code == DISCONNECT_REQUEST);
      id = h.packet.id;
      octets = h.packet.octets;
      authenticator = h.packet.authenticator;
      attributes = (IsAttribute-cause cause, short_kept (has_kind PROXY_STATE) request.attributes h.packet.attributes);
      size = omega (arith, nak_length-at_most request);
    }

pub IsPacket-nak : NakIsPacket
unfolding nak
IsPacket-nak secret cause request h =
    IsPacket-signed_reply secret request.authenticator (unsigned_nak cause request) (IsPacket-unsigned cause request h)

-- ---- at the end of a buffer

-- octets that end with the unsigned NAK, behind those that were there before
pub record IsBehindNak (cause : ℕ) (request : Packet) (before octets : List ℕ) (start : ℕ) : Type 0 where
  pub front : take start octets ≡ before
  pub there : AreTextOf (unsigned_nak cause request) (drop start octets)

pub behind_nak : (cause : ℕ) (request : Packet) (before octets : List ℕ) (start : ℕ) → CanBeRefused request
    → start ≡ length before → octets ≡ before ++ packet_text (unsigned_nak cause request)
    → IsBehindNak cause request before octets start
behind_nak cause request before octets start h start-is all =
    let p : Packet = unsigned_nak cause request in
    let behind : drop start octets ≡ packet_text p = ap (drop start) all
    ∙ drop_at before (packet_text p) start (sym start-is) in
    record {
      front = ap (take start) all ∙ take_at before (packet_text p) start (sym start-is);
      there = subst (AreTextOf p) (sym behind) (AreTextOf-packet_text p (IsPacket-unsigned cause request h));
    }

-- signed there, it is the NAK
pub nak_text : (secret : List ℕ) (cause : ℕ) (request : Packet) (before octets written authenticator : List ℕ)
    (start : ℕ)
    → IsBehindNak cause request before octets start → authenticator ≡ request.authenticator
    → written ≡ take start octets ++ packet_text (signed_reply secret authenticator (packet_of (drop start octets)))
    → written ≡ before ++ packet_text (nak secret cause request)
unfolding nak
nak_text secret cause request before octets written authenticator start behind same is =
    is
    ∙ ap (λ (front : List ℕ). front
    ++ packet_text (signed_reply secret authenticator (packet_of (drop start octets)))) behind.front
    ∙ ap (λ (a : List ℕ). before ++ packet_text (signed_reply secret a (packet_of (drop start octets)))) same
    ∙ ap (λ (p : Packet). before ++ packet_text (signed_reply secret request.authenticator p)) behind.there.packet
