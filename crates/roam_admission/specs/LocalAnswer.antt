-- The answers that the broker gives itself (RFC 2865 section 4.3, RFC 5997; when is ours).
use Rattle.std.specs.Prelude.{ℕ, ◌+◌, nat_lt, List, [], ◌∷◌, ◌++◌, length, if◌then◌else◌}
use Rattle.roam_wire.specs.Packet.{Attribute, Packet, attributes_text}
use Rattle.roam_wire.specs.Attributes.{count_of, only_kind}
use Rattle.roam_wire.specs.declared.attribute_type.TheConstants.{MESSAGE_AUTHENTICATOR, PROXY_STATE}
use Rattle.roam_wire.specs.declared.code.TheConstants.{ACCESS_ACCEPT, ACCESS_REJECT, ACCOUNTING_RESPONSE}
use Rattle.roam_crypto.specs.Authenticators.{signed_reply}
use Rattle.roam_crypto.specs.MessageAuthenticator.{empty_message_authenticator, with_message_authenticator}
use Rattle.roam_conf.specs.declared.place.Place.{Place}
use Rattle.roam_conf.specs.declared.place.Place.TheVariants as place

-- a local answer before it is sealed and signed: a Message-Authenticator, and the request's Proxy-States
abbrev pub unsealed_answer : ℕ → Packet → Packet
unsealed_answer code request = record {
  code = code;
  id = request.id;
  authenticator = request.authenticator;
  attributes = empty_message_authenticator ∷ only_kind PROXY_STATE request.attributes;
}

-- the local answer, sealed over the request's Authenticator and signed for it with the peer's secret
-- (RFC 3579, section 3.2; RFC 2865, section 3)
unfoldable pub local_answer : ℕ → List ℕ → Packet → Packet
local_answer code secret request =
    signed_reply secret request.authenticator
    (with_message_authenticator secret request.authenticator (unsealed_answer code request))

-- its size, in octets: the header, the Message-Authenticator, the Proxy-States
abbrev pub answer_length : Packet → ℕ
answer_length request = 38 + length (attributes_text (only_kind PROXY_STATE request.attributes))

-- ## Local reject
-- An Access-Reject with the request's Identifier, a Message-Authenticator first and then the request's
-- Proxy-States, sealed and signed for the peer over the request's Authenticator. It answers an Access-Request
-- that has too many hops, that names no configured realm or one that takes none of this peer's, or whose
-- passwords can't be carried: both User-Password and CHAP-Password, two User-Passwords, or one of another size
-- than 16 to 128 octets in whole blocks. Refused where it would pass 4096 octets (10)
-- Source: RFC 2865 sections 4.1, 4.3 and 5.2, RFC 3579 section 3.2; when it is sent is ours
-- Rules out: an answer that another realm's state changes
-- Stands in: `roam_admission` `LocalAnswer.antt`: `local_reject`, `answer_length`; `LocalReject.antt`:
-- `is_rejected`; `prepare`, the law `rejects`
--
-- the local reject
abbrev pub local_reject : List ℕ → Packet → Packet
local_reject secret request = local_answer ACCESS_REJECT secret request

-- what answers a Status-Server: an Access-Accept where Access-Requests are taken, an Accounting-Response
-- where Accounting-Requests are (RFC 5997, section 3)
abbrev pub status_code : Place → ℕ
status_code (place.Acct nth) = ACCOUNTING_RESPONSE
status_code _ = ACCESS_ACCEPT

-- ## Answer to a Status-Server
-- From a peer, with one Message-Authenticator of 16 octets that is right over its own Authenticator, else 7,
-- and 8 without one: an Access-Accept at `auth`, an Accounting-Response at `acct`, with the request's
-- Identifier, a Message-Authenticator first and then the request's Proxy-States, sealed and signed for the peer
-- over the request's Authenticator. No longer than the request. It carries no realm, and looks at no state and
-- no time.
-- Source: RFC 5997 sections 3 and 4, RFC 3579 section 3.2
-- Rules out: an answer to a stranger; an answer in which a realm is seen; a dead realm taken for a dead broker
-- Stands in: `roam_admission` `LocalAnswer.antt`: `status_answer`, `local_answer`; `prepare`, the law
-- `status_answers`
--
abbrev pub status_answer : Place → List ℕ → Packet → Packet
status_answer at secret request = local_answer (status_code at) secret request

-- the Message-Authenticator with which an Accounting-Request is answered: one where it has one (ours)
abbrev pub answering_seal : Packet → List Attribute
answering_seal request =
    if nat_lt 0 (count_of MESSAGE_AUTHENTICATOR request.attributes) then empty_message_authenticator ∷ [] else []

-- the answer before it is sealed and signed
abbrev pub unsealed_accounting_answer : Packet → Packet
unsealed_accounting_answer request = record {
  code = ACCOUNTING_RESPONSE;
  id = request.id;
  authenticator = request.authenticator;
  attributes = answering_seal request ++ only_kind PROXY_STATE request.attributes;
}

-- ## Local accounting answer
-- An Accounting-Response with the request's Identifier, a Message-Authenticator first where the request has one, and
-- the request's Proxy-States; sealed, where it has that, and signed for the peer over the request's Authenticator. It
-- answers an Accounting-Request without a User-Name where `answer_unnamed` is set, as access servers send of their own
-- start and stop; and one for a realm whose `accounting` is `"answer"`. No longer than the request. It carries no
-- realm, and looks at no state and no time; no ledger changes by it.
-- Source: RFC 2866 sections 4.2 and 5.1, RFC 2865 section 5.33; when it is sent is ours
-- Rules out: an answer to a stranger; an answered request that reaches a realm's ledger
-- Stands in: `roam_admission` `LocalAnswer.antt`: `accounting_answer`; `Admission.antt`: `accounted`; `prepare`,
-- the law
-- `accounting_answers`
--
unfoldable pub accounting_answer : List ℕ → Packet → Packet
accounting_answer secret request =
    signed_reply secret request.authenticator
    (with_message_authenticator secret request.authenticator (unsealed_accounting_answer request))
