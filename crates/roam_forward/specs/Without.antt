-- A list of attributes without those that don't pass (RFC 2865, sections 5 and 5.26; which don't is ours).
use Rattle.std.specs.Prelude.{ℕ, ◌==◌, ◌&&◌, not, nat_le, Bool, List, [], ◌∷◌, ◌++◌, length, take, drop, filter, if◌then◌else◌, Option, Some, None}
use Rattle.std.specs.Int.{w32, from_be_bytes}
use Rattle.std.specs.List.{flat_map, list_any}
use Rattle.roam_wire.specs.Packet.{Attribute, attributes_text}
use Rattle.roam_wire.specs.Reading.{attributes_of}
use Rattle.roam_wire.specs.declared.attribute_type.TheConstants.{VENDOR_SPECIFIC}
use Rattle.roam_wire.specs.declared.removed_attribute.RemovedAttribute.{RemovedAttribute}
use Rattle.roam_forward.specs.Removal.{is_kind, is_vendor, is_kind_of, is_some_of}
use Rattle.roam_forward.specs.declared.passing.Passing.{Passing}
use Rattle.roam_forward.specs.declared.passing.Passing.TheVariants.{Nothing, Whole, Parts}

-- a Vendor-Specific with a vendor: four octets at least (RFC 2865, section 5.26)
abbrev pub has_vendor : Attribute → Bool
has_vendor a = a.kind == VENDOR_SPECIFIC && nat_le 4 (length a.value)

-- the vendor of a value: the first four octets, the high one first
abbrev pub vendor_of : List ℕ → ℕ
vendor_of value = from_be_bytes w32 (take 4 value)

-- how a vendor's attribute passes
abbrev pub passing_of_vendor : List RemovedAttribute → ℕ → Passing
passing_of_vendor removed vendor =
    if list_any (is_vendor vendor) removed then Nothing
    else if list_any (is_some_of vendor) removed then Parts
    else Whole

-- how an attribute passes: not at all where its Type or its vendor is named, in parts where types of its vendor are,
-- else whole
abbrev pub how_passed : List RemovedAttribute → Attribute → Passing
how_passed removed a =
    if list_any (is_kind a.kind) removed then Nothing
    else if has_vendor a then passing_of_vendor removed (vendor_of a.value)
    else Whole

-- a sub-attribute of a vendor isn't named
abbrev pub is_left : List RemovedAttribute → ℕ → Attribute → Bool
is_left removed vendor sub = not (list_any (is_kind_of vendor sub.kind) removed)

-- the octets of the sub-attributes that are left; none where there are no sub-attributes
abbrev pub left_text : List RemovedAttribute → ℕ → Option (List Attribute) → List ℕ
left_text removed vendor None = []
left_text removed vendor (Some subs) = attributes_text (filter (is_left removed vendor) subs)

-- a Vendor-Specific of a vendor with these sub-attributes, if there are any
abbrev pub with_subs : List ℕ → List Attribute → List Attribute
with_subs vendor [] = []
with_subs vendor (sub ∷ subs) =
    record { kind = VENDOR_SPECIFIC; value = vendor ++ attributes_text (sub ∷ subs) } ∷ []

-- with those that are left; nothing where the octets behind the vendor are no sub-attributes
abbrev pub with_left : List RemovedAttribute → ℕ → List ℕ → Option (List Attribute) → List Attribute
with_left removed number vendor None = []
with_left removed number vendor (Some subs) = with_subs vendor (filter (is_left removed number) subs)

-- a Vendor-Specific of this value without the sub-attributes that are named
abbrev pub parts_of : List RemovedAttribute → List ℕ → List Attribute
parts_of removed value =
    with_left removed (vendor_of value) (take 4 value) (attributes_of (drop 4 value))

-- what passes of an attribute
abbrev pub passed_as : Passing → List RemovedAttribute → Attribute → List Attribute
passed_as Nothing removed a = []
passed_as Whole removed a = a ∷ []
passed_as Parts removed a = parts_of removed a.value

unfoldable pub passed : List RemovedAttribute → Attribute → List Attribute
passed removed a = passed_as (how_passed removed a) removed a

-- ## Attributes that don't pass
-- Of a list of attributes those pass, in their order, that a list of removed ones doesn't name: by their Type; by
-- the vendor of a Vendor-Specific; or, of a Vendor-Specific, by a type of its vendor: then its sub-attributes of
-- other types are left, and it goes where none is left or its octets are no sub-attributes. A Vendor-Specific of
-- less than four octets has no vendor.
-- Source: RFC 2865 sections 5 and 5.26; which pass is ours
-- Rules out: another vendor's type of that number removed; a malformed list let through; an order that changes
-- Stands in: `roam_forward` `Without.antt`: `without`, `passed`; `append_passed`, `passed_len`
--
-- what passes of a list of attributes
unfoldable pub without : List RemovedAttribute → List Attribute → List Attribute
without removed attributes = flat_map (passed removed) attributes
