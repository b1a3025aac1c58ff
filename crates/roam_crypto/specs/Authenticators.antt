-- Response and Request Authenticators (RFC 2865, section 3; RFC 2866, section 3; RFC 5176,
-- section 2.3).
use Rattle.std.specs.Prelude.{◌≡◌, ℕ, List, ◌++◌, length, replicate}
use Rattle.roam_wire.specs.Packet.{AreOctets, Packet, packet_text}
use Rattle.md5.specs.Md5.{md5}

-- sixteen zero octets, which stand for an Authenticator that isn't computed yet
abbrev pub zero_octets : List ℕ
zero_octets = replicate 16 0

-- sixteen octets, as an Authenticator has and a digest (RFC 2865, section 3; RFC 1321)
pub record AreSixteenOctets (field : List ℕ) : Type 0 where
  pub size : length field ≡ 16
  pub octets : AreOctets field

-- the packet with these octets in its Authenticator field
abbrev pub with_authenticator : List ℕ → Packet → Packet
with_authenticator authenticator p = record p { authenticator = authenticator }

-- ## Response Authenticator, signed reply
-- A reply is signed for a secret and a Request Authenticator where its Authenticator is MD5 of its text with
-- that Request Authenticator in the Authenticator's place, followed by the secret.
-- Source: RFC 2865 section 3
-- Rules out: a digest over the reply's own Authenticator
-- Stands in: `roam_crypto` `Authenticators.antt`: `response_authenticator`, `IsSignedReply`; `response_auth`,
-- `response_ok`, `sign_reply`
--
-- MD5 of Code, Identifier, Length, the request's Authenticator, attributes and secret
-- (RFC 2865, section 3, "Response Authenticator")
unfoldable pub response_authenticator : List ℕ → List ℕ → Packet → List ℕ
response_authenticator secret request_authenticator p =
    md5 (packet_text (with_authenticator request_authenticator p) ++ secret)

-- a reply is signed where its Authenticator field is its Response Authenticator
-- (RFC 2865, section 3)
abbrev pub IsSignedReply : List ℕ → List ℕ → Packet → Type 0
IsSignedReply secret request_authenticator p =
    p.authenticator ≡ response_authenticator secret request_authenticator p

-- the reply with its Response Authenticator in its Authenticator field (RFC 2865, section 3)
abbrev pub signed_reply : List ℕ → List ℕ → Packet → Packet
signed_reply secret request_authenticator p =
    with_authenticator (response_authenticator secret request_authenticator p) p

-- ## Request Authenticator, signed request
-- An Accounting-, Disconnect- or CoA-Request is signed for a secret where its Authenticator is MD5 of its text
-- with 16 zero octets in the Authenticator's place, followed by the secret.
-- Source: RFC 2866 section 3, RFC 5176 section 2.3
-- Rules out: a digest over the request's own Authenticator
-- Stands in: `roam_crypto` `Authenticators.antt`: `request_authenticator`, `IsSignedRequest`; `request_auth`,
-- `request_ok`, `sign_request`
--
-- MD5 of Code, Identifier, Length, sixteen zero octets, attributes and secret
-- (RFC 2866, section 3, "Request Authenticator"; RFC 5176, section 2.3)
unfoldable pub request_authenticator : List ℕ → Packet → List ℕ
request_authenticator secret p = md5 (packet_text (with_authenticator zero_octets p) ++ secret)

-- an accounting or reverse request is signed where its Authenticator field is that
-- (RFC 2866, section 3; RFC 5176, section 2.3)
abbrev pub IsSignedRequest : List ℕ → Packet → Type 0
IsSignedRequest secret p = p.authenticator ≡ request_authenticator secret p

-- the request with its Request Authenticator in its Authenticator field (RFC 2866, section 3; RFC
-- 5176, section 2.3)
abbrev pub signed_request : List ℕ → Packet → Packet
signed_request secret p = with_authenticator (request_authenticator secret p) p
