-- A walk over attributes that looks for the one Message-Authenticator (RFC 3579, section 3.2).
use Rattle.std.specs.Prelude.{◌≡◌, ◌⊎◌, ℕ, ◌+◌, true, false, length, Option, Some, None}
use Rattle.roam_wire.specs.Packet.{Attribute}
use Rattle.roam_wire.specs.Attributes.{has_kind}
use Rattle.roam_wire.specs.declared.attribute_type.TheConstants.{MESSAGE_AUTHENTICATOR}

-- where the one Value begins that was met, an attribute further, which stands at an octet: it is another attribute, or
-- the first Message-Authenticator, of 16 octets
abbrev pub IsNextPlace : Option ℕ → ℕ → Attribute → Option ℕ → Type 0
IsNextPlace met at a next =
    ((has_kind MESSAGE_AUTHENTICATOR a ≡ false) × (next ≡ met))
    ⊎ ((has_kind MESSAGE_AUTHENTICATOR a ≡ true) × (met ≡ None) × (length a.value ≡ 16) × (next ≡ Some (at + 2)))
