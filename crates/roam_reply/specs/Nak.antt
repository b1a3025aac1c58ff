-- The negative acknowledgement of a reverse request: a Disconnect-NAK or a CoA-NAK (RFC 5176,
-- sections 2.3 and 3.5).
use Rattle.std.specs.Prelude.{◌==◌, ℕ, ◌+◌, List, ◌∷◌, length, if◌then◌else◌}
use Rattle.std.specs.Int.{w32, to_be_bytes}
use Rattle.roam_wire.specs.Packet.{Attribute, Packet, attributes_text}
use Rattle.roam_wire.specs.declared.attribute_type.TheConstants.{ERROR_CAUSE}
use Rattle.roam_wire.specs.declared.code.TheConstants.{DISCONNECT_REQUEST, DISCONNECT_NAK, COA_NAK}
use Rattle.roam_crypto.specs.Authenticators.{signed_reply}
use Rattle.roam_reply.specs.Returned.{proxy_states}

-- the code that refuses a Disconnect-Request, or else a CoA-Request (RFC 5176, section 2.3)
abbrev pub nak_code : ℕ → ℕ
nak_code request = if request == DISCONNECT_REQUEST then DISCONNECT_NAK else COA_NAK

-- an Error-Cause: its number in four octets, the high one first (RFC 5176, section 3.5)
abbrev pub error_cause : ℕ → Attribute
error_cause cause = record { kind = ERROR_CAUSE; value = to_be_bytes w32 cause }

-- the NAK before it is signed: the request's Identifier and Authenticator, the Error-Cause, and the
-- request's Proxy-States (RFC 5176, section 2.3; that it has no Message-Authenticator is ours)
abbrev pub unsigned_nak : ℕ → Packet → Packet
unsigned_nak cause request = record {
  code = nak_code request.code;
  id = request.id;
  authenticator = request.authenticator;
  attributes = error_cause cause ∷ proxy_states request;
}

-- ## Negative acknowledgement (NAK)
-- Disconnect-NAK or CoA-NAK with the request's Identifier, one Error-Cause of four octets and the request's
-- Proxy-States, signed for the home server over the request's Authenticator, and nothing else: no
-- Message-Authenticator. Its size is at most the request's and six octets more.
-- Source: RFC 5176 sections 2.3 and 3.5; that it has no seal is ours
-- Rules out: a NAK that carries a seal, or another cause; one that the home server can't tell from another's
-- Stands in: `roam_reply` `Nak.antt`: `nak`, `nak_code`, `error_cause`, `nak_length`; `nak`, `nak_reserved`, the
-- laws `nak_reads`, `nak_answers`, `nak_carries`
--
-- the NAK of a request, signed with the secret that is shared with the home server (RFC 5176,
-- section 2.3)
unfoldable pub nak : List ℕ → ℕ → Packet → Packet
nak secret cause request = signed_reply secret request.authenticator (unsigned_nak cause request)

-- its size, in octets: the header, the Error-Cause, the Proxy-States
unfoldable pub nak_length : Packet → ℕ
nak_length request = 26 + length (attributes_text (proxy_states request))
