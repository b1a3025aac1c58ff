-- Values with salted strings hidden anew, as functions, for definitions that name a result: a law says that
-- `salted_hidden_anew` gives the one attribute that `IsAttributeAnew` allows.
use Rattle.std.specs.Prelude.{ℕ, ◌%◌, ◌==◌, nat_lt, nat_le, Bool, ◌&&◌, if◌then◌else◌, List, ◌++◌, length, take, drop, map, Option, Some, None}
use Rattle.std.specs.Option.{option_map_or}
use Rattle.roam_wire.specs.Packet.{Attribute, attributes_text}
use Rattle.roam_wire.specs.Reading.{attributes_of}
use Rattle.roam_wire.specs.declared.attribute_type.TheConstants.{VENDOR_SPECIFIC}
use Rattle.roam_crypto.specs.declared.salted_kinds.Salting.{Salting}
use Rattle.roam_crypto.specs.declared.salted_kinds.Salting.TheVariants.{Salt, TagAndSalt}
use Rattle.roam_crypto.specs.Hiding.{Key, hidden_anew}
use Rattle.roam_crypto.specs.SaltedKinds.{salting_of}
use Rattle.roam_crypto.specs.SaltedValues.{salted_key, vendor_number}

-- whether a text has one block at least, and whole blocks alone
abbrev pub has_whole_blocks : List ℕ → Bool
has_whole_blocks text = nat_lt 0 (length text) && (length text % 16 == 0)

-- salt and string
abbrev pub salted_anew : Key → Key → List ℕ → List ℕ
salted_anew from to value =
    let salt = take 2 value in
    if has_whole_blocks (drop 2 value)
    then salt ++ hidden_anew (salted_key from salt) (salted_key to salt) (drop 2 value)
    else value

-- tag, salt and string
abbrev pub tunnel_anew : Key → Key → List ℕ → List ℕ
tunnel_anew from to value = take 1 value ++ salted_anew from to (drop 1 value)

-- by how a value begins
abbrev pub value_anew : Key → Key → Option Salting → List ℕ → List ℕ
value_anew from to None value = value
value_anew from to (Some Salt) value = salted_anew from to value
value_anew from to (Some TagAndSalt) value = tunnel_anew from to value

-- a vendor's sub-attribute
abbrev pub sub_attribute_anew : Key → Key → ℕ → Attribute → Attribute
sub_attribute_anew from to vendor sub =
    record sub { value = value_anew from to (salting_of (Some vendor) sub.kind) sub.value }

-- the sub-attributes of the value of a Vendor-Specific, if they are well formed
abbrev pub vendor_subs : List ℕ → Option (List Attribute)
vendor_subs value = if nat_le 4 (length value) then attributes_of (drop 4 value) else None

-- such a value with these sub-attributes, hidden anew
abbrev pub subs_anew : Key → Key → List ℕ → List Attribute → List ℕ
subs_anew from to vendor subs =
    vendor ++ attributes_text (map (sub_attribute_anew from to (vendor_number vendor)) subs)

-- the value of a Vendor-Specific
abbrev pub vendor_anew : Key → Key → List ℕ → List ℕ
vendor_anew from to value =
    option_map_or (subs_anew from to (take 4 value)) (vendor_subs value) value

-- an attribute
abbrev pub salted_hidden_anew : Key → Key → Attribute → Attribute
salted_hidden_anew from to a =
    record a {
      value =
          if a.kind == VENDOR_SPECIFIC then vendor_anew from to a.value
          else value_anew from to (salting_of None a.kind) a.value;
    }
