-- The realm that a request's User-Name gives, and the access server that its attributes name (RFC
-- 2865, sections 2.3, 5.1, 5.4 and 5.32; how a name gives a realm is ours).
use Rattle.std.specs.Prelude.{ℕ, ◌==◌, List, [], ◌∷◌, Option, Some, None, if◌then◌else◌, option_and_then}
use Rattle.roam_wire.specs.Packet.{Attribute}
use Rattle.roam_wire.specs.Attributes.{first_value}
use Rattle.roam_wire.specs.declared.attribute_type.TheConstants.{USER_NAME, NAS_IP_ADDRESS, NAS_IDENTIFIER}
use Rattle.roam_conf.specs.Config.{ConfigView}
use Rattle.roam_conf.specs.Lookup.{realm_named}

-- what follows a later `@`, else what follows this octet where it is one
abbrev pub part_after : ℕ → List ℕ → Option (List ℕ) → Option (List ℕ)
part_after octet octets (Some part) = Some part
part_after octet octets None = if octet == 64 then Some octets else None

-- ## Realm of a request
-- The configured realm that is meant by what follows the last `@` of the first User-Name; none where there is
-- no User-Name, no `@` or no such realm. A job says it too: of a reverse request it is the realm that the
-- User-Name names, beside the one of the place where the request came.
-- Source: RFC 2865 section 2.3, ours
-- Rules out: an earlier `@`; another look-up for reverse requests than for others
-- Stands in: `roam_admission` `UserName.antt`: `realm_part`, `realm_of`; `realm_of`, the law `names`
--
-- what follows the last `@` of a name, whose octet is 64; none where there is no `@` (ours)
abbrev pub realm_part : List ℕ → Option (List ℕ)
realm_part [] = None
realm_part (octet ∷ octets) = part_after octet octets (realm_part octets)

-- the realm of a request: the one that what follows the last `@` of the first User-Name means, by the
-- names and patterns of the configuration (ours)
abbrev pub realm_of : ConfigView → List Attribute → Option ℕ
realm_of config attributes =
    option_and_then (realm_named config)
    (option_and_then realm_part (first_value USER_NAME attributes))

-- the access server that a packet names: its first NAS-IP-Address, and its first NAS-Identifier (RFC
-- 2865, sections 5.4 and 5.32)
abbrev pub nas_of : List Attribute → Option (List ℕ) × Option (List ℕ)
nas_of attributes = (first_value NAS_IP_ADDRESS attributes, first_value NAS_IDENTIFIER attributes)
