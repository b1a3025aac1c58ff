-- The example of RFC 2865, section 7.1, so that a wrong definition does not check: the password
-- "arctangent", the secret "xyzzy5461", and the Request Authenticator
-- 0f403f9473978057bd83d5cb98f4227a.
use Rattle.std.proofs.Common.{◌≡◌, ℕ, List, [], ◌∷◌, ◌++◌, codes, refl}
use Rattle.md5.specs.Md5.{block_words, rounds, compress, hash_after, digest_bytes, md5}
use Rattle.roam_crypto.specs.Hiding.{Key, cover, IsHidden, blocks_to, hidden_text, plain_text}
use Rattle.roam_crypto.proofs.HidingLemmas.{hidden_text_hides}

-- the Request Authenticator
abbrev pub authenticator : List ℕ
authenticator = 0x0f ∷ 0x40 ∷ 0x3f ∷ 0x94 ∷ 0x73 ∷ 0x97 ∷ 0x80 ∷ 0x57 ∷ 0xbd ∷ 0x83 ∷ 0xd5 ∷ 0xcb
    ∷ 0x98 ∷ 0xf4 ∷ 0x22 ∷ 0x7a ∷ []

abbrev pub key : Key
key = record { secret = codes "xyzzy5461"; first = authenticator }

-- the password, padded with zero octets
abbrev pub password : List ℕ
password = codes "arctangent" ++ 0 ∷ 0 ∷ 0 ∷ 0 ∷ 0 ∷ 0 ∷ []

abbrev pub hidden : List ℕ
hidden = 0x0d ∷ 0xbe ∷ 0x70 ∷ 0x8d ∷ 0x93 ∷ 0xd4 ∷ 0x13 ∷ 0xce ∷ 0x31 ∷ 0x96 ∷ 0xe4 ∷ 0x3f ∷ 0x78
    ∷ 0x2a ∷ 0x0a ∷ 0xee ∷ []

-- the digest that covers the first block
pub first_cover : cover key [] 0 ≡ 0x6c ∷ 0xcc ∷ 0x13 ∷ 0xf9 ∷ 0xf2 ∷ 0xba ∷ 0x74 ∷ 0xab ∷ 0x5f
    ∷ 0xe2 ∷ 0xe4 ∷ 0x3f ∷ 0x78 ∷ 0x2a ∷ 0x0a ∷ 0xee ∷ []
unfolding block_words rounds compress hash_after digest_bytes md5
first_cover = refl

pub hidden_password : hidden_text key password ≡ hidden
unfolding block_words rounds compress hash_after digest_bytes md5 blocks_to
hidden_password = refl

pub plain_password : plain_text key hidden ≡ password
unfolding block_words rounds compress hash_after digest_bytes md5 blocks_to
plain_password = refl

-- the example keeps the definition
pub password_is_hidden : IsHidden key password hidden
unfolding block_words rounds compress hash_after digest_bytes md5 blocks_to
password_is_hidden = hidden_text_hides key password refl
