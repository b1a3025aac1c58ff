-- The states that HMAC-MD5 makes of a key before it sees a message (RFC 2104, section 4).
use Rattle.std.specs.Prelude.{ℕ, ◌≤◌, List}
use Rattle.roam_crypto.specs.Hasher.{Holds}
use Rattle.roam_crypto.specs.declared.hasher.Hasher.{Hasher}
use Rattle.roam_crypto.specs.Hmac.{key_with_pad}

-- two hashers that have taken a key of so many octets in, one with ipad and one with opad
pub record IsTakenIn (size : ℕ) (key : List ℕ) (inner outer : Hasher) : Type 0 where
  pub short : size ≤ 64
  pub inner_block : Holds inner (key_with_pad 0x36 key)
  pub outer_block : Holds outer (key_with_pad 0x5c key)
