-- The key that a `HidingKey` stands for.
use Rattle.roam_crypto.specs.declared.hiding_key.HidingKey.{HidingKey}
use Rattle.roam_crypto.specs.Hiding.{Key}

-- for a User-Password: the digest of the first block reads the Request Authenticator (RFC 2865,
-- section 5.2)
abbrev pub password_key : HidingKey → Key
password_key key = record { secret = key.secret.now; first = key.authenticator.now }
