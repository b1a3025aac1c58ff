-- Shared secrets (RFC 2865, section 3).
use Rattle.std.specs.Prelude.{ℕ, ◌≤◌, List, length}

-- a shared secret: it isn't empty (RFC 2865, section 3), and has at most the 64 octets that HMAC-MD5
-- takes without hashing them first (RFC 2104, section 2; that it may have no more is ours)
pub record IsSecret (secret : List ℕ) : Type 0 where
  pub at_least_one_octet : 1 ≤ length secret
  pub at_most_64_octets : length secret ≤ 64
