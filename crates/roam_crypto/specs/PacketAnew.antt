-- A packet whose hidden values are hidden anew (RFC 2865, section 2.3).
use Rattle.std.specs.Prelude.{◌≡◌, ◌==◌, ℕ, ◌+◌, List, map, slice_index, slice_range, if◌then◌else◌}
use Rattle.roam_wire.specs.Packet.{Attribute, Packet}
use Rattle.roam_wire.specs.declared.attribute_type.TheConstants.{USER_PASSWORD}
use Rattle.roam_crypto.specs.declared.packet_values.Hidden.{Hidden}
use Rattle.roam_crypto.specs.declared.packet_values.Hidden.TheVariants.{UserPassword, SaltedStrings}
use Rattle.roam_crypto.specs.Hiding.{Key, HasWholeBlocks, hidden_anew}
use Rattle.roam_crypto.specs.SaltedFunctions.{salted_hidden_anew}

-- an attribute with a User-Password hidden anew (RFC 2865, section 5.2)
abbrev pub password_hidden_anew : Key → Key → Attribute → Attribute
password_hidden_anew from to a =
    record a { value = if a.kind == USER_PASSWORD then hidden_anew from to a.value else a.value }

-- the attribute that stands in octets from one to another: its Type, its Length, its Value (RFC 2865,
-- section 5)
abbrev pub attribute_in : List ℕ → ℕ → ℕ → Attribute
attribute_in octets start end =
    record { kind = slice_index octets start; value = slice_range octets (start + 2) end }

-- one of the two
abbrev pub attribute_anew : Hidden → Key → Key → Attribute → Attribute
attribute_anew UserPassword from to a = password_hidden_anew from to a
attribute_anew SaltedStrings from to a = salted_hidden_anew from to a

-- ## Packet hidden anew
-- A packet with each User-Password hidden anew (of an Access-Request), or each salted string (of an
-- Access-Accept), and all else octet for octet.
-- Source: RFC 2865 sections 2.3 and 5.2, RFC 2868 section 3.5, RFC 2548 section 2.4
-- Rules out: only the first password; a salted string of a request, or a password of a reply, hidden anew
-- Stands in: `roam_crypto` `PacketAnew.antt`: `packet_anew`, `CanBeHiddenAnew`; `rehide_packet`
--
-- the packet with each attribute so
abbrev pub packet_anew : Hidden → Key → Key → Packet → Packet
packet_anew hidden from to p =
    record p { attributes = map (attribute_anew hidden from to) p.attributes }

-- a User-Password that is hidden anew has whole blocks (RFC 2865, section 5.2)
pub record CanBeHiddenAnew (hidden : Hidden) (a : Attribute) : Type 0 where
  pub password : hidden ≡ UserPassword → a.kind ≡ USER_PASSWORD → HasWholeBlocks a.value
