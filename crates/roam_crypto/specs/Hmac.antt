-- HMAC-MD5 (RFC 2104) as its formula: H(K XOR opad, H(K XOR ipad, text)), with MD5 as H.
use Rattle.std.specs.Prelude.{ℕ, ◌-◌, List, ◌++◌, length, map, replicate, bit_xor}
use Rattle.md5.specs.Md5.{md5}

-- a key of at most 64 octets, with zeros behind it to the 64 octets of a block
-- (RFC 2104, section 2, step 1)
abbrev pub padded_key : List ℕ → List ℕ
padded_key key = key ++ replicate (64 - length key) 0

-- K XOR pad: the padded key, each octet XORed with the pad's (RFC 2104, section 2, steps 2 and 5)
abbrev pub key_with_pad : ℕ → List ℕ → List ℕ
key_with_pad pad key = map (λ octet. bit_xor octet pad) (padded_key key)

-- ## HMAC-MD5
-- The two-fold digest with a key of at most 64 octets, padded to 64, inner pad 0x36, outer pad 0x5c.
-- Source: RFC 2104 section 2
-- Rules out: a digest without the outer one
-- Stands in: `roam_crypto` `Hmac.antt`: `hmac_md5`; `hmac_md5`
--
-- HMAC-MD5 of a message; ipad is the octet 0x36, opad 0x5c (RFC 2104, section 2)
unfoldable pub hmac_md5 : List ℕ → List ℕ → List ℕ
hmac_md5 key message = md5 (key_with_pad 0x5c key ++ md5 (key_with_pad 0x36 key ++ message))
