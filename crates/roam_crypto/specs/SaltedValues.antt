-- Values with salted strings: that of Tunnel-Password (RFC 2868, section 3.5), of MS-MPPE-Send-Key and
-- MS-MPPE-Recv-Key (RFC 2548, sections 2.4.2 and 2.4.3), and of each other kind of the one list.
use Rattle.std.specs.Prelude.{◌≡◌, ◌≢◌, ℕ, ◌⊎◌, List, ◌++◌, length, take, drop, Option, Some, None, IsSome, Any}
use Rattle.std.specs.Int.{w32, from_be_bytes}
use Rattle.std.specs.List.{AllZip}
use Rattle.roam_wire.specs.Packet.{Attribute, Packet, attributes_text}
use Rattle.roam_wire.specs.declared.attribute_type.TheConstants.{VENDOR_SPECIFIC}
use Rattle.roam_crypto.specs.declared.salted_kinds.Salting.{Salting}
use Rattle.roam_crypto.specs.declared.salted_kinds.Salting.TheVariants.{Salt, TagAndSalt}
use Rattle.roam_crypto.specs.Hiding.{Key, HasWholeBlocks, IsHiddenAnew}
use Rattle.roam_crypto.specs.SaltedKinds.{salting_of}

-- A string behind a salt: the digest of its first block reads the Request Authenticator, then the
-- salt (RFC 2868, section 3.5: b(1) = MD5(S + R + A)).
abbrev pub salted_key : Key → List ℕ → Key
salted_key key salt = record key { first = key.first ++ salt }

-- ## Salted strings
-- As hidden, with `hidden(0)` the Authenticator followed by the salt, on the string of each kind with a salted
-- string. All other octets stay, and so does a string whose size isn't a positive multiple of 16, and a malformed
-- list of sub-attributes.
-- Source: RFC 2868 section 3.5, RFC 2548 section 2.4
-- Rules out: a tag taken for salt; a string of 24 octets mangled; a kind overlooked
-- Stands in: `roam_crypto` `SaltedValues.antt`: `IsSaltedAnew`, `IsTunnelAnew`, `IsVendorAnew`, `IsAttributeAnew`,
-- `IsSalted`; `rehide_salted`, `rehide_tunnel`, `rehide_vendor`, `salted`, the laws `one_attribute_anew`,
-- `salted_decided`
--
-- A value that is a salt of two octets, then a string: the salt stays, a string of whole blocks is
-- hidden anew. A value with any other string, or too short for its salt, stays (ours).
pub record IsSaltedAnew (from to : Key) (old new : List ℕ) : Type 0 where
  pub salt : take 2 new ≡ take 2 old
  pub string : HasWholeBlocks (drop 2 old)
      → IsHiddenAnew (salted_key from (take 2 old)) (salted_key to (take 2 old))
      (drop 2 old) (drop 2 new)
  pub other_string : ¬ HasWholeBlocks (drop 2 old) → new ≡ old

-- A tag of one octet, which stays, then salt and string, as a Tunnel-Password has it (RFC 2868, section 3.5).
pub record IsTunnelAnew (from to : Key) (old new : List ℕ) : Type 0 where
  pub tag : take 1 new ≡ take 1 old
  pub salted : IsSaltedAnew from to (drop 1 old) (drop 1 new)

-- by how a value begins; one without a salted string stays
abbrev pub IsValueAnew : Key → Key → Option Salting → List ℕ → List ℕ → Type 0
IsValueAnew from to None old new = new ≡ old
IsValueAnew from to (Some Salt) old new = IsSaltedAnew from to old new
IsValueAnew from to (Some TagAndSalt) old new = IsTunnelAnew from to old new

-- the value of a Vendor-Specific: four octets of the vendor, then sub-attributes, each of them Type, Length, Value as
-- an attribute is (RFC 2865, section 5.26)
pub record IsVendorValue (vendor : List ℕ) (subs : List Attribute) (value : List ℕ) : Type 0 where
  pub four_octets : length vendor ≡ 4
  pub spelt : value ≡ vendor ++ attributes_text subs

-- the number of a vendor: its octets, the high one first
abbrev pub vendor_number : List ℕ → ℕ
vendor_number vendor = from_be_bytes w32 vendor

-- a vendor's sub-attribute: its Type stays
pub record IsSubAttributeAnew (from to : Key) (vendor : ℕ) (old new : Attribute) : Type 0 where
  pub kind : new.kind ≡ old.kind
  pub value : IsValueAnew from to (salting_of (Some vendor) old.kind) old.value new.value

-- The value of a Vendor-Specific: its sub-attributes one by one. One without sub-attributes that are well formed
-- stays (ours).
pub record IsVendorAnew (from to : Key) (old new : List ℕ) : Type 0 where
  pub well_formed : (vendor : List ℕ) (subs : List Attribute) → IsVendorValue vendor subs old
      → (fresh : List Attribute) × IsVendorValue vendor fresh new
      × AllZip (IsSubAttributeAnew from to (vendor_number vendor)) subs fresh
  pub other : ((vendor : List ℕ) (subs : List Attribute) → ¬ IsVendorValue vendor subs old) → new ≡ old

-- an attribute of a packet: its Type stays; a Vendor-Specific by its vendor's sub-attributes, any other by its Type
pub record IsAttributeAnew (from to : Key) (old new : Attribute) : Type 0 where
  pub kind : new.kind ≡ old.kind
  pub vendor_specific : old.kind ≡ VENDOR_SPECIFIC → IsVendorAnew from to old.value new.value
  pub other : old.kind ≢ VENDOR_SPECIFIC → IsValueAnew from to (salting_of None old.kind) old.value new.value

-- a Vendor-Specific with a salted string among its sub-attributes
pub record HoldsSalted (value : List ℕ) : Type 0 where
  pub vendor : List ℕ
  pub subs : List Attribute
  pub is : IsVendorValue vendor subs value
  pub some : Any (λ sub. IsSome (salting_of (Some (vendor_number vendor)) sub.kind)) subs

-- an attribute of a kind with a salted string, whatever its size, or a Vendor-Specific that holds one
abbrev pub IsSaltedAttribute : Attribute → Type 0
IsSaltedAttribute a =
    IsSome (salting_of None a.kind) ⊎ ((a.kind ≡ VENDOR_SPECIFIC) × HoldsSalted a.value)

-- the packet has an attribute with a salted string (ours)
abbrev pub IsSalted : Packet → Type 0
IsSalted packet = Any IsSaltedAttribute packet.attributes
