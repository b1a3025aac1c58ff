-- Vectors of the RFCs, so that a wrong pad, order or field in a definition does not check. The last
-- two digests were computed apart, by Python's `hashlib` and `hmac`.
use Rattle.std.proofs.Common.{◌≡◌, ℕ, List, [], ◌∷◌, codes, replicate, refl}
use Rattle.md5.specs.Md5.{block_words, rounds, compress, hash_after, digest_bytes, md5}
use Rattle.roam_wire.specs.Packet.{Packet}
use Rattle.roam_crypto.specs.Hmac.{hmac_md5}
use Rattle.roam_crypto.specs.Authenticators.{response_authenticator, request_authenticator}
use Rattle.roam_crypto.specs.MessageAuthenticator.{message_authenticator}

-- RFC 1321, section A.5
pub md5_of_abc : md5 (codes "abc")
    ≡ 0x90 ∷ 0x01 ∷ 0x50 ∷ 0x98 ∷ 0x3c ∷ 0xd2 ∷ 0x4f ∷ 0xb0 ∷ 0xd6 ∷ 0x96 ∷ 0x3f ∷ 0x7d ∷ 0x28
    ∷ 0xe1 ∷ 0x7f ∷ 0x72 ∷ []
unfolding block_words rounds compress hash_after digest_bytes md5
md5_of_abc = refl

-- RFC 2104, appendix, first vector
pub hmac_md5_of_hi_there : hmac_md5 (replicate 16 0x0b) (codes "Hi There")
    ≡ 0x92 ∷ 0x94 ∷ 0x72 ∷ 0x7a ∷ 0x36 ∷ 0x38 ∷ 0xbb ∷ 0x1c ∷ 0x13 ∷ 0xf4 ∷ 0x8e ∷ 0xf8 ∷ 0x15
    ∷ 0x8b ∷ 0xfc ∷ 0x9d ∷ []
unfolding hmac_md5 block_words rounds compress hash_after digest_bytes md5
hmac_md5_of_hi_there = refl

-- RFC 2104, appendix, second vector
pub hmac_md5_of_jefe : hmac_md5 (codes "Jefe") (codes "what do ya want for nothing?")
    ≡ 0x75 ∷ 0x0c ∷ 0x78 ∷ 0x3e ∷ 0x6a ∷ 0xb0 ∷ 0xb5 ∷ 0x03 ∷ 0xea ∷ 0xa8 ∷ 0x6e ∷ 0x31 ∷ 0x0a
    ∷ 0x5d ∷ 0xb7 ∷ 0x38 ∷ []
unfolding hmac_md5 block_words rounds compress hash_after digest_bytes md5
hmac_md5_of_jefe = refl

-- the secret of RFC 2865, section 7.1
abbrev secret : List ℕ
secret = codes "xyzzy5461"

-- the Request Authenticator of the Access-Request there
abbrev request : List ℕ
request = 0x0f ∷ 0x40 ∷ 0x3f ∷ 0x94 ∷ 0x73 ∷ 0x97 ∷ 0x80 ∷ 0x57 ∷ 0xbd ∷ 0x83 ∷ 0xd5 ∷ 0xcb ∷ 0x98
    ∷ 0xf4 ∷ 0x22 ∷ 0x7a ∷ []

-- the Access-Accept there: Service-Type, Login-Service, Login-IP-Host
abbrev accept : Packet
accept = record {
  code = 2;
  id = 0;
  authenticator = [];
  attributes =
      record { kind = 6; value = 0 ∷ 0 ∷ 0 ∷ 1 ∷ [] }
      ∷ record { kind = 15; value = 0 ∷ 0 ∷ 0 ∷ 0 ∷ [] }
      ∷ record { kind = 14; value = 192 ∷ 168 ∷ 1 ∷ 3 ∷ [] }
      ∷ [];
}

-- RFC 2865, section 7.1: the Response Authenticator of the Access-Accept
pub response_authenticator_of_accept : response_authenticator secret request accept
    ≡ 0x86 ∷ 0xfe ∷ 0x22 ∷ 0x0e ∷ 0x76 ∷ 0x24 ∷ 0xba ∷ 0x2a ∷ 0x10 ∷ 0x05 ∷ 0xf6 ∷ 0xbf ∷ 0x9b
    ∷ 0x55 ∷ 0xe0 ∷ 0xb2 ∷ []
unfolding response_authenticator block_words rounds compress hash_after digest_bytes md5
response_authenticator_of_accept = refl

-- an Accounting-Request: User-Name `u@a.example`, Acct-Status-Type Start, Acct-Session-Id `01`
abbrev start : Packet
start = record {
  code = 4;
  id = 5;
  authenticator = request;
  attributes =
      record { kind = 1; value = codes "u@a.example" }
      ∷ record { kind = 40; value = 0 ∷ 0 ∷ 0 ∷ 1 ∷ [] }
      ∷ record { kind = 44; value = codes "01" }
      ∷ [];
}

pub request_authenticator_of_start : request_authenticator secret start
    ≡ 0x40 ∷ 0xd7 ∷ 0xb5 ∷ 0xa8 ∷ 0x89 ∷ 0xc5 ∷ 0x5f ∷ 0xa9 ∷ 0x03 ∷ 0x2b ∷ 0xa5 ∷ 0xd6 ∷ 0xbe
    ∷ 0x37 ∷ 0x8f ∷ 0x2e ∷ []
unfolding request_authenticator block_words rounds compress hash_after digest_bytes md5
request_authenticator_of_start = refl

-- an Access-Request: User-Name `u@a.example`, and some Value in its Message-Authenticator
abbrev sealed : Packet
sealed = record {
  code = 1;
  id = 7;
  authenticator = request;
  attributes =
      record { kind = 1; value = codes "u@a.example" }
      ∷ record { kind = 80; value = replicate 16 1 }
      ∷ [];
}

pub message_authenticator_of_sealed : message_authenticator secret request sealed
    ≡ 0xa0 ∷ 0x88 ∷ 0x3c ∷ 0x18 ∷ 0xcd ∷ 0x87 ∷ 0x4f ∷ 0x1c ∷ 0x65 ∷ 0xaa ∷ 0x68 ∷ 0xa8 ∷ 0x75
    ∷ 0x30 ∷ 0xb5 ∷ 0x46 ∷ []
unfolding message_authenticator hmac_md5 block_words rounds compress hash_after digest_bytes md5
message_authenticator_of_sealed = refl
