-- The hiding of a User-Password, 16 octets at a time (RFC 2865, section 5.2).
use Rattle.std.specs.Prelude.{◌≡◌, ◌==◌, ◌&&◌, nat_le, Bool, ℕ, zero, suc, ◌*◌, ◌/◌, ◌%◌, ◌<◌, ◌≤◌, List, [], ◌++◌, length, take, drop, bit_xor}
use Rattle.std.specs.Simd.Lanes.{zip2}
use Rattle.md5.specs.Md5.{md5}

-- A shared secret, and the octets that the digest of the first block reads after it: for a
-- User-Password the Request Authenticator (section 5.2).
pub record Key : Type 0 where
  pub secret : List ℕ
  pub first : List ℕ

-- block k of a text, counted from 0 (section 5.2: p1, p2, .. and c(1), c(2), .. from 1)
abbrev pub block : ℕ → List ℕ → List ℕ
block k text = take 16 (drop (16 * k) text)

-- what the digest of block k reads after the secret: the hidden block before it (section 5.2)
abbrev pub read_before : Key → List ℕ → ℕ → List ℕ
read_before key hidden zero = key.first
read_before key hidden (suc k) = block k hidden

-- the digest that covers block k (section 5.2: b1, b2, ..)
abbrev pub cover : Key → List ℕ → ℕ → List ℕ
cover key hidden k = md5 (key.secret ++ read_before key hidden k)

-- octet by octet the exclusive or
abbrev pub xor_octets : List ℕ → List ℕ → List ℕ
xor_octets = zip2 bit_xor

-- ## Hidden
-- `hidden(k) = plain(k) xor MD5(secret, hidden(k-1))` for blocks of 16 octets, with `hidden(0)` the Request
-- Authenticator. One relation for both ways; for each plain text there is just one hidden text, and the other
-- way round.
-- Source: RFC 2865 section 5.2
-- Rules out: a chain fed with the plain block
-- Stands in: `roam_crypto` `Hiding.antt`: `IsHidden`; the laws `one_hidden_text`, `one_plain_text`
--
-- Both texts have equally many whole blocks, and each hidden block is the plain one, xor the digest
-- that covers it (section 5.2: c(1) = p1 xor b1, c(2) = p2 xor b2, ..).
pub record IsHidden (key : Key) (plain hidden : List ℕ) : Type 0 where
  pub whole_blocks : length plain % 16 ≡ 0
  pub same_size : length hidden ≡ length plain
  pub each_block : (k : ℕ) → 16 * k < length plain
      → block k hidden ≡ xor_octets (block k plain) (cover key hidden k)

-- ## Hidden anew
-- A text is another one hidden anew where some plain text stands behind both, each under its own secret and
-- Authenticator.
-- Source: RFC 2865 section 5.2, section 2.3
-- Rules out: a password that the home server can't read
-- Stands in: `roam_crypto` `Hiding.antt`: `IsHiddenAnew`; `rehide_password`, the laws `one_text_anew`,
-- `same_key_changes_nothing`, `first_key_brings_back`
--
-- some plain text is hidden by the one key in the old text, and by the other in the new (ours: what
-- a proxy does with a User-Password, RFC 2865, section 2.3)
abbrev pub IsHiddenAnew : Key → Key → List ℕ → List ℕ → Type 0
IsHiddenAnew from to old new = (plain : List ℕ) × IsHidden from plain old × IsHidden to plain new

-- one block at least, and whole blocks alone
pub record HasWholeBlocks (text : List ℕ) : Type 0 where
  pub not_empty : 0 < length text
  pub whole_blocks : length text % 16 ≡ 0

-- a User-Password has 16, 32, .. or 128 octets (RFC 2865, section 5.2)
abbrev pub IsPasswordSize : ℕ → Type 0
IsPasswordSize size = (16 ≤ size) × (size ≤ 128) × (size % 16 ≡ 0)

-- the same as a test of a Value, for definitions that choose by it
abbrev pub password_fits : List ℕ → Bool
password_fits value =
    nat_le 16 (length value) && nat_le (length value) 128 && length value % 16 == 0

-- a key with this secret, whose first block this digest covers
pub record Opens (key : Key) (secret digest : List ℕ) : Type 0 where
  pub secret_is : key.secret ≡ secret
  pub digest_is : digest ≡ md5 (key.secret ++ key.first)

-- ---- the same as functions, for definitions that name a result: the laws say that each gives the
-- one text that the relation allows

-- n blocks in a row, each made from its number and from all blocks before it
unfoldable pub blocks_to : (ℕ → List ℕ → List ℕ) → ℕ → List ℕ
blocks_to make zero = []
blocks_to make (suc n) = let done = blocks_to make n in done ++ make n done

-- the one text that hides this plain text
abbrev pub hidden_text : Key → List ℕ → List ℕ
hidden_text key plain =
    blocks_to (λ k done. xor_octets (block k plain) (cover key done k)) (length plain / 16)

-- the one plain text that this text hides
abbrev pub plain_text : Key → List ℕ → List ℕ
plain_text key hidden =
    blocks_to (λ k _. xor_octets (block k hidden) (cover key hidden k)) (length hidden / 16)

-- the one text that hides with the second key what the old text hides with the first
abbrev pub hidden_anew : Key → Key → List ℕ → List ℕ
hidden_anew from to old = hidden_text to (plain_text from old)
