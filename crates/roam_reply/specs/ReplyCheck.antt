-- The replies that are taken (RFC 2865, section 2.3), as facts, and as tests for definitions that choose by them: a law
-- says that the tests find no fault just where the facts hold.
use Rattle.std.specs.Prelude.{◌≡◌, ◌==◌, ◌||◌, ◌&&◌, ◌<◌, ◌↔◌, ℕ, Bool, List, [], ◌∷◌, IsTrue, Option, Some, None, if◌then◌else◌, nat_lt, not}
use Rattle.roam_wire.specs.Packet.{Packet}
use Rattle.roam_wire.specs.Attributes.{count_of}
use Rattle.roam_wire.specs.Codes.{is_access_reply}
use Rattle.roam_wire.specs.declared.attribute_type.TheConstants.{EAP_MESSAGE, MESSAGE_AUTHENTICATOR}
use Rattle.roam_wire.specs.declared.code.TheConstants.{ACCESS_REQUEST, ACCOUNTING_REQUEST, ACCOUNTING_RESPONSE, DISCONNECT_REQUEST, DISCONNECT_ACK, DISCONNECT_NAK, COA_REQUEST, COA_ACK, COA_NAK}
use Rattle.roam_wire.specs.declared.refusal.Refusal.{Refusal}
use Rattle.roam_wire.specs.declared.refusal.Refusal.TheVariants as refusal
use Rattle.roam_crypto.specs.Authenticators.{zero_octets, IsSignedReply}
use Rattle.roam_crypto.specs.Deciding.{is_signed_reply, is_well_sealed}
use Rattle.roam_crypto.specs.MessageAuthenticator.{IsWellSealed}

-- whether a reply's code answers a request's (RFC 2865 section 4, RFC 2866 section 4, RFC 5176
-- section 2.3)
abbrev pub answers : ℕ → ℕ → Bool
answers request reply =
    (request == ACCESS_REQUEST && is_access_reply reply)
    || (request == ACCOUNTING_REQUEST && reply == ACCOUNTING_RESPONSE)
    || (request == DISCONNECT_REQUEST && (reply == DISCONNECT_ACK || reply == DISCONNECT_NAK))
    || (request == COA_REQUEST && (reply == COA_ACK || reply == COA_NAK))

-- the Authenticators over which a reply's Message-Authenticator may be: the forwarded request's, and
-- in an accounting or reverse reply zeros too (RFC 3579, section 3.2; the second is ours)
abbrev pub sealing_authenticators : Packet → Packet → List (List ℕ)
sealing_authenticators reply forwarded =
    if is_access_reply reply.code
    then forwarded.authenticator ∷ []
    else forwarded.authenticator ∷ zero_octets ∷ []

-- an Access reply with an EAP-Message has a Message-Authenticator (RFC 3579, section 3.1)
abbrev pub HasSealForEap : Packet → Type 0
HasSealForEap reply =
    IsTrue (is_access_reply reply.code) → 0 < count_of EAP_MESSAGE reply.attributes
    → 0 < count_of MESSAGE_AUTHENTICATOR reply.attributes

-- an Access reply has a Message-Authenticator where its home server is required to seal: without one it
-- may be forged by who stands between (CVE-2024-3596; when one is required is ours)
abbrev pub HasRequiredSeal : Bool → Packet → Type 0
HasRequiredSeal required reply =
    IsTrue required → IsTrue (is_access_reply reply.code)
    → 0 < count_of MESSAGE_AUTHENTICATOR reply.attributes

-- a reply that is rightly sealed for a forwarded request
pub record IsRightlySealed (secret : List ℕ) (required : Bool) (reply forwarded : Packet) : Type 0
  where
    pub well_sealed : IsWellSealed secret (sealing_authenticators reply forwarded) reply
    pub eap : HasSealForEap reply
    pub required_seal : HasRequiredSeal required reply

-- ## Taken reply, fault of a reply
-- A reply is taken for a forwarded request where its code answers the request's, it is signed with the link's
-- secret for the forwarded Authenticator, and it is rightly sealed; an Access reply with an EAP-Message has a
-- seal, and so has each Access reply of a server with `require_seal`. Else its fault is the first of
-- WrongReply, BadReply, BadReplyMessageAuthenticator that holds.
-- Source: RFC 2865 sections 3 and 4, RFC 2866 section 4, RFC 5176 section 2.3, RFC 3579 sections 3.1 and 3.2;
-- when a seal is required besides is ours
-- Rules out: a reply without seal to an EAP request; a forged Access-Accept (CVE-2024-3596); a fault named for
-- another
-- Stands in: `roam_reply` `ReplyCheck.antt`: `IsTaken`, `reply_fault`; `check_reply`, the law `taken_replies`
--
-- a reply to a forwarded request that is taken: its code answers the request's, it is signed with the
-- link's secret for the forwarded Authenticator, and it is rightly sealed
pub record IsTaken (secret : List ℕ) (required : Bool) (reply forwarded : Packet) : Type 0 where
  pub code : IsTrue (answers forwarded.code reply.code)
  pub signed : IsSignedReply secret forwarded.authenticator reply
  pub sealed : IsRightlySealed secret required reply forwarded

-- The same as tests.

-- whether an Access reply with an EAP-Message has a Message-Authenticator (RFC 3579, section 3.1)
abbrev pub has_seal_for_eap : Packet → Bool
has_seal_for_eap reply =
    not (is_access_reply reply.code)
    || count_of EAP_MESSAGE reply.attributes == 0
    || nat_lt 0 (count_of MESSAGE_AUTHENTICATOR reply.attributes)

-- whether an Access reply has a Message-Authenticator where one is required (ours)
abbrev pub has_required_seal : Bool → Packet → Bool
has_required_seal required reply =
    not required
    || not (is_access_reply reply.code)
    || nat_lt 0 (count_of MESSAGE_AUTHENTICATOR reply.attributes)

-- whether a reply is rightly sealed for a forwarded request (RFC 3579, sections 3.1 and 3.2)
abbrev pub is_reply_rightly_sealed : List ℕ → Bool → Packet → Packet → Bool
is_reply_rightly_sealed secret required reply forwarded =
    is_well_sealed secret (sealing_authenticators reply forwarded) reply
    && (has_seal_for_eap reply && has_required_seal required reply)

-- why a reply to a forwarded request isn't taken, if it isn't: for its code, its Response
-- Authenticator, or its Message-Authenticator, in this order
abbrev pub reply_fault : List ℕ → Bool → Packet → Packet → Option Refusal
reply_fault secret required reply forwarded =
    if not (answers forwarded.code reply.code) then Some refusal.WrongReply
    else if not (is_signed_reply secret forwarded.authenticator reply) then Some refusal.BadReply
    else if not (is_reply_rightly_sealed secret required reply forwarded)
    then Some refusal.BadReplyMessageAuthenticator
    else None

-- a reply has no fault just where it is taken
abbrev pub TakenHasNoFault : Type 0
TakenHasNoFault = (secret : List ℕ) (required : Bool) (reply forwarded : Packet) →
    (reply_fault secret required reply forwarded ≡ None) ↔ IsTaken secret required reply forwarded
