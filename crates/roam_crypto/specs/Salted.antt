-- The test that a packet holds a salted string. What it means is said by `IsSalted`, and a law says that they agree.
use Rattle.std.specs.Prelude.{ℕ, ◌==◌, ◌&&◌, ◌||◌, Bool, false, List, take, Some, None}
use Rattle.std.specs.List.{list_any}
use Rattle.std.specs.Option.{is_some, option_map_or}
use Rattle.roam_wire.specs.Packet.{Attribute}
use Rattle.roam_wire.specs.declared.attribute_type.TheConstants.{VENDOR_SPECIFIC}
use Rattle.roam_crypto.specs.SaltedKinds.{salting_of}
use Rattle.roam_crypto.specs.SaltedValues.{vendor_number}
use Rattle.roam_crypto.specs.SaltedFunctions.{vendor_subs}

-- a vendor's sub-attribute has a salted string
abbrev pub is_salted_sub : ℕ → Attribute → Bool
is_salted_sub vendor sub = is_some (salting_of (Some vendor) sub.kind)

-- a Vendor-Specific, well formed, with a salted string among its sub-attributes
abbrev pub holds_salted : List ℕ → Bool
holds_salted value =
    option_map_or (list_any (is_salted_sub (vendor_number (take 4 value)))) (vendor_subs value) false

-- an attribute of a kind with a salted string, whatever its size, or a Vendor-Specific that holds one
abbrev pub is_salted_attribute : Attribute → Bool
is_salted_attribute a =
    is_some (salting_of None a.kind) || (a.kind == VENDOR_SPECIFIC && holds_salted a.value)

-- some attribute has a salted string
unfoldable pub is_salted : List Attribute → Bool
is_salted attributes = list_any is_salted_attribute attributes
