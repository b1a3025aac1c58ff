-- Laws of what passes (ours). Each is a clause of the function of src/removal_laws.rt.
use Rattle.std.specs.Prelude.{◌≡◌, ◌≢◌, ℕ, true, false, List, [], ◌∷◌, ◌++◌, take, drop, filter, Some, None}
use Rattle.std.specs.List.{list_any}
use Rattle.roam_wire.specs.Attributes.{only_kind}
use Rattle.roam_wire.specs.Packet.{Attribute}
use Rattle.roam_wire.specs.Reading.{attributes_of}
use Rattle.roam_wire.specs.declared.attribute_type.TheConstants.{VENDOR_SPECIFIC}
use Rattle.roam_wire.specs.declared.removed_attribute.RemovedAttribute.{RemovedAttribute}
use Rattle.roam_forward.specs.Removal.{is_kind, is_some_of, is_vendor}
use Rattle.roam_forward.specs.Without.{has_vendor, is_left, passed, vendor_of, with_subs, without}

-- attributes pass one by one, in their order
abbrev pub PassesInOrder : Type 0
PassesInOrder = (removed : List RemovedAttribute) (first behind : List Attribute) →
    without removed (first ++ behind) ≡ without removed first ++ without removed behind

-- of a Type that is named none pass
abbrev pub NamedGo : Type 0
NamedGo = (removed : List RemovedAttribute) (kind : ℕ) (all : List Attribute) →
    list_any (is_kind kind) removed ≡ true → only_kind kind (without removed all) ≡ []

-- of any other but Vendor-Specific all pass, octet for octet
abbrev pub OthersStay : Type 0
OthersStay = (removed : List RemovedAttribute) (kind : ℕ) (all : List Attribute) →
    list_any (is_kind kind) removed ≡ false → kind ≢ VENDOR_SPECIFIC →
    only_kind kind (without removed all) ≡ only_kind kind all

-- a Vendor-Specific of which neither the Type nor the vendor is named, and types of the vendor are, or aren't
pub record IsOfVendor (removed : List RemovedAttribute) (a : Attribute) : Type 0 where
  pub kind : list_any (is_kind a.kind) removed ≡ false
  pub vendor : has_vendor a ≡ true

-- one whose vendor is named goes
abbrev pub VendorsGo : Type 0
VendorsGo = (removed : List RemovedAttribute) (a : Attribute) → IsOfVendor removed a →
    list_any (is_vendor (vendor_of a.value)) removed ≡ true → passed removed a ≡ []

-- one of which types are named passes with its sub-attributes of other types, in their order, if there are any
abbrev pub PartsPass : Type 0
PartsPass = (removed : List RemovedAttribute) (a : Attribute) (subs : List Attribute) → IsOfVendor removed a →
    list_any (is_vendor (vendor_of a.value)) removed ≡ false →
    list_any (is_some_of (vendor_of a.value)) removed ≡ true → attributes_of (drop 4 a.value) ≡ Some subs →
    passed removed a ≡ with_subs (take 4 a.value) (filter (is_left removed (vendor_of a.value)) subs)

-- and goes where its octets are no sub-attributes
abbrev pub MalformedGo : Type 0
MalformedGo = (removed : List RemovedAttribute) (a : Attribute) → IsOfVendor removed a →
    list_any (is_vendor (vendor_of a.value)) removed ≡ false →
    list_any (is_some_of (vendor_of a.value)) removed ≡ true → attributes_of (drop 4 a.value) ≡ None →
    passed removed a ≡ []

-- any other passes whole
abbrev pub VendorsStay : Type 0
VendorsStay = (removed : List RemovedAttribute) (a : Attribute) → IsOfVendor removed a →
    list_any (is_vendor (vendor_of a.value)) removed ≡ false →
    list_any (is_some_of (vendor_of a.value)) removed ≡ false → passed removed a ≡ a ∷ []

-- one of less than four octets has no vendor, and passes whole where its Type isn't named
abbrev pub ShortStay : Type 0
ShortStay = (removed : List RemovedAttribute) (a : Attribute) → list_any (is_kind a.kind) removed ≡ false →
    has_vendor a ≡ false → passed removed a ≡ a ∷ []
