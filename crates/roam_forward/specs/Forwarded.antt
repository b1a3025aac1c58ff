-- The packet that is forwarded for a request (RFC 2865, section 2.3).
use Rattle.std.specs.Prelude.{◌≡◌, ◌==◌, ◌&&◌, ◌+◌, ◌≤◌, ℕ, Bool, nat_lt, List, [], ◌∷◌, ◌++◌, map, if◌then◌else◌}
use Rattle.std.specs.Int.{w64, to_be_bytes}
use Rattle.std.specs.List.{AllByRecursion}
use Rattle.roam_wire.specs.Packet.{Attribute, Packet, packet_length}
use Rattle.roam_wire.specs.Attributes.{count_of, without_kind}
use Rattle.roam_wire.specs.declared.attribute_type.TheConstants.{USER_PASSWORD, CHAP_PASSWORD, PROXY_STATE, CHAP_CHALLENGE, MESSAGE_AUTHENTICATOR}
use Rattle.roam_wire.specs.declared.code.TheConstants.{ACCESS_REQUEST}
use Rattle.roam_wire.specs.declared.packet_size.TheConstants.{MAX_PACKET_LENGTH}
use Rattle.roam_crypto.specs.Authenticators.{zero_octets, with_authenticator, request_authenticator}
use Rattle.roam_crypto.specs.MessageAuthenticator.{HasAtMostOneMessageAuthenticator, empty_message_authenticator, with_message_authenticator}
use Rattle.roam_crypto.specs.Hiding.{Key, HasWholeBlocks}
use Rattle.roam_crypto.specs.PacketAnew.{password_hidden_anew}

-- what a request is forwarded with: the secret shared with the requester and the one shared with the
-- link, the new Identifier, the Authenticator of an Access-Request, and the ticket (ours)
pub record Forwarding : Type 0 where
  pub from_secret : List ℕ
  pub to_secret : List ℕ
  pub id : ℕ
  pub authenticator : List ℕ
  pub ticket : ℕ

-- it, of these
abbrev pub forwarding : List ℕ → List ℕ → ℕ → List ℕ → ℕ → Forwarding
forwarding from_secret to_secret id authenticator ticket = record {
  from_secret = from_secret;
  to_secret = to_secret;
  id = id;
  authenticator = authenticator;
  ticket = ticket;
}

-- the Proxy-State that the broker adds: the ticket in eight octets, the high one first (RFC 2865,
-- section 5.33; that it is the ticket is ours)
abbrev pub ticket_state : ℕ → Attribute
ticket_state ticket = record { kind = PROXY_STATE; value = to_be_bytes w64 ticket }

-- an attribute with a User-Password hidden anew, from the requester's secret and Authenticator to
-- the link's secret and the new Authenticator (RFC 2865, section 5.2)
abbrev pub with_password_anew : Forwarding → Packet → Attribute → Attribute
with_password_anew f request a =
    let from : Key = record { secret = f.from_secret; first = request.authenticator } in
    let to : Key = record { secret = f.to_secret; first = f.authenticator } in
    password_hidden_anew from to a

-- whether a CHAP-Password stands without a CHAP-Challenge, so that the request's Authenticator is the
-- challenge (RFC 2865, section 5.3)
abbrev pub challenge_is_authenticator : List Attribute → Bool
challenge_is_authenticator attributes =
    nat_lt 0 (count_of CHAP_PASSWORD attributes) && count_of CHAP_CHALLENGE attributes == 0

-- the CHAP-Challenge that is then added, since the forwarded packet has another Authenticator
-- (RFC 2865, section 5.40)
abbrev pub added_challenge : Packet → List Attribute
added_challenge request =
    if challenge_is_authenticator request.attributes
    then record { kind = CHAP_CHALLENGE; value = request.authenticator } ∷ []
    else []

-- an Access-Request's attributes as they are forwarded: a Message-Authenticator first, then its own
-- without Message-Authenticator and with the password hidden anew, then the challenge that is added
abbrev pub access_attributes : Forwarding → Packet → List Attribute
access_attributes f request =
    (empty_message_authenticator
    ∷ map (with_password_anew f request) (without_kind MESSAGE_AUTHENTICATOR request.attributes))
    ++ added_challenge request

-- a request's attributes as they are forwarded: in an Access-Request the above, in any other as they
-- stand (RFC 2865, section 2.3)
abbrev pub carried_attributes : Forwarding → Packet → List Attribute
carried_attributes f request =
    if request.code == ACCESS_REQUEST then access_attributes f request else request.attributes

-- the packet before it is sealed and signed: the request's code, the new Identifier, the new
-- Authenticator in an Access-Request and zeros in any other, and the ticket behind the attributes
abbrev pub unsealed : Forwarding → Packet → Packet
unsealed f request = record {
  code = request.code;
  id = f.id;
  authenticator = if request.code == ACCESS_REQUEST then f.authenticator else zero_octets;
  attributes = carried_attributes f request ++ ticket_state f.ticket ∷ [];
}

-- sealed with the link's secret, over the Authenticator that it then has (RFC 3579, section 3.2)
abbrev pub sealed : Forwarding → Packet → Packet
sealed f request =
    with_message_authenticator f.to_secret (unsealed f request).authenticator (unsealed f request)

-- ## Forwarded packet
-- Of a request, toward a link, with an Identifier, an Authenticator and a ticket: the same Code; in an
-- Access-Request first a Message-Authenticator, then the attributes in their order without
-- Message-Authenticator and with the User-Password hidden anew, then a CHAP-Challenge with the request's
-- Authenticator where a CHAP-Password stands and no CHAP-Challenge; in other requests the attributes as they
-- stand; last a Proxy-State with the ticket in 8 octets. Sealed with the link's secret where it has a
-- Message-Authenticator, as each Access-Request then has; and signed with it, but for an Access-Request, whose
-- Authenticator is random.
-- Source: RFC 2865 sections 2.3, 5.2, 5.3 and 5.33, RFC 3579 section 3.2; the ticket ours
-- Rules out: a second Message-Authenticator; a password hidden with another server's secret
-- Stands in: `roam_forward` `Forwarded.antt`: `forwarded`, `forwarded_length`; `Rewriting.antt`: `IsRewritable`;
-- `rewrite`, `forward`, the laws `forwarded_packet`, `forwarded_authenticator`,
-- `forwarded_carries`, `forwarded_marks`
--
-- the forwarded packet: sealed, and, unless it is an Access-Request, signed with the link's secret
-- (RFC 2866, section 3; RFC 5176, section 2.3)
unfoldable pub forwarded : Forwarding → Packet → Packet
forwarded f request =
    if request.code == ACCESS_REQUEST
    then sealed f request
    else with_authenticator (request_authenticator f.to_secret (sealed f request)) (sealed f request)

-- how many octets an Access-Request gains besides the ticket: 18 for a Message-Authenticator that it
-- didn't have, 18 for a CHAP-Challenge
abbrev pub access_growth : Packet → ℕ
access_growth request =
    (if count_of MESSAGE_AUTHENTICATOR request.attributes == 0 then 18 else 0)
    + (if challenge_is_authenticator request.attributes then 18 else 0)

-- the size of the forwarded packet, in octets: the request's, 10 for the ticket, and those
unfoldable pub forwarded_length : Packet → ℕ
forwarded_length request =
    packet_length request + 10 + (if request.code == ACCESS_REQUEST then access_growth request else 0)

-- a User-Password that can be hidden anew has whole blocks (RFC 2865, section 5.2)
pub record HasPasswordBlocks (a : Attribute) : Type 0 where
  pub whole_blocks : a.kind ≡ USER_PASSWORD → HasWholeBlocks a.value

-- ## What can be forwarded
-- A request with at most one Message-Authenticator, of 16 octets, in an Access-Request passwords of whole
-- blocks of 16 octets, and a forwarded packet of at most 4096 octets.
-- Source: RFC 3579 section 3.2, RFC 2865 section 5.2; the limit ours
-- Rules out: a packet built past its limit; a password cut off
-- Stands in: `roam_forward` `Forwarded.antt`: `CanBeForwarded`, `forwarded_length`; `can_be_shaped`
--
-- a request that can be forwarded: at most one Message-Authenticator, of 16 octets; in an
-- Access-Request passwords of whole blocks; and the forwarded packet has at most 4096 octets
pub record CanBeForwarded (request : Packet) : Type 0 where
  pub message_authenticator : HasAtMostOneMessageAuthenticator request
  pub passwords : request.code ≡ ACCESS_REQUEST → AllByRecursion HasPasswordBlocks request.attributes
  pub size : forwarded_length request ≤ MAX_PACKET_LENGTH
