-- The meaning of a configuration's texts for attributes to remove. Ours.
use Rattle.std.specs.Prelude.{ℕ, ◌==◌, if◌then◌else◌, List, [], ◌∷◌, take, drop, Option, Some, None, option_map}
use Rattle.std.specs.List.{slice_split}
use Rattle.std.specs.Str.{bytes_eq}
use Rattle.roam_wire.specs.declared.removed_attribute.RemovedAttribute.{RemovedAttribute}
use Rattle.roam_wire.specs.declared.removed_attribute.RemovedAttribute.TheVariants.{Kind, Vendor, VendorKind}
use Rattle.roam_address.specs.Decimals.{decimal_in}

-- the parts of a text between the octets that equal `separator`
unfoldable pub parts : ℕ → List ℕ → List (List ℕ)
parts separator text = slice_split (λ octet. octet == separator) text

-- a vendor and a type of its own, if both are there
abbrev pub vendor_kind : Option ℕ → Option ℕ → Option RemovedAttribute
vendor_kind (Some vendor) (Some kind) = Some (VendorKind vendor kind)
vendor_kind _ _ = None

-- a vendor, or a vendor and a type from 1
abbrev pub vendor_from : List (List ℕ) → Option RemovedAttribute
vendor_from (vendor ∷ []) = option_map (λ v. Vendor v) (decimal_in 0 16777215 vendor)
vendor_from (vendor ∷ kind ∷ []) = vendor_kind (decimal_in 0 16777215 vendor) (decimal_in 1 255 kind)
vendor_from _ = None

-- an attribute to remove: a Type from 1; or `26.` (50, 54, 46) and a vendor; or these, a dot, and a type of the vendor
unfoldable pub removed_in : List ℕ → Option RemovedAttribute
removed_in text =
    if bytes_eq (take 3 text) (50 ∷ 54 ∷ 46 ∷ []) then vendor_from (parts 46 (drop 3 text))
    else option_map (λ k. Kind k) (decimal_in 1 255 text)
