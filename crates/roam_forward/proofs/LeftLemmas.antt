-- What passes of an attribute, and the octets that it takes.
use Rattle.std.proofs.Common.{◌≡◌, ℕ, ◌+◌, ◌≤◌, Bool, true, false, List, [], ◌∷◌, ◌++◌, length, Option, Some, subst, refl, sym, ap, ◌∙◌, arith, append-nil}
use Rattle.std.specs.Prelude.{unwrap_or, if◌then◌else◌}
use Rattle.std.specs.List.{AllByRecursion, list_any}
use Rattle.std.proofs.lemmas.Bool.Decides.{nat_tests}
use Rattle.roam_wire.specs.Packet.{AreOctets, Attribute, IsAttribute, attribute_text, attributes_text}
use Rattle.roam_wire.specs.Reading.{attributes_of}
use Rattle.roam_wire.specs.declared.attribute_type.TheConstants.{VENDOR_SPECIFIC}
use Rattle.roam_wire.specs.declared.removed_attribute.RemovedAttribute.{RemovedAttribute}
use Rattle.roam_wire.proofs.AttributeLemmas.{Spell, read_spells}
use Rattle.roam_wire.proofs.KeptLemmas.{IsAppending, IsCount, kept_text, length-kept_text}
use Rattle.roam_forward.specs.declared.passing.Passing.{Passing}
use Rattle.roam_forward.specs.declared.passing.Passing.TheVariants.{Nothing, Whole, Parts}
use Rattle.roam_forward.specs.Removal.{is_kind}
use Rattle.roam_forward.specs.Without.{has_vendor, vendor_of, passing_of_vendor, how_passed, is_left, left_text, passed, passed_as}

-- ---- how an attribute passes

-- it passes in parts where it is a Vendor-Specific with a vendor
pub record HasParts (a : Attribute) : Type 0 where
  pub kind : a.kind ≡ VENDOR_SPECIFIC
  pub vendor : 4 ≤ length a.value

pub has_vendor-parts : (a : Attribute) → has_vendor a ≡ true → HasParts a
has_vendor-parts a h = record { kind = grind (arith, nat_tests, h); vendor = grind (arith, nat_tests, h) }

parts_of_cases : (named vendor : Bool) (passing : Passing) →
    (if named then Nothing else if vendor then passing else Whole) ≡ Parts → vendor ≡ true
parts_of_cases true vendor passing h = absurd (cc)
parts_of_cases false true passing h = refl
parts_of_cases false false passing h = absurd (cc)

pub how_passed-parts : (removed : List RemovedAttribute) (a : Attribute) → how_passed removed a ≡ Parts → HasParts a
how_passed-parts removed a h =
    has_vendor-parts a (parts_of_cases (list_any (is_kind a.kind) removed) (has_vendor a)
    (passing_of_vendor removed (vendor_of a.value)) h)

-- what passes, by how it passes
pub passed-as : (removed : List RemovedAttribute) (a : Attribute) (way : Passing) → how_passed removed a ≡ way →
    passed removed a ≡ passed_as way removed a
unfolding passed
passed-as removed a way is = ap (λ (w : Passing). passed_as w removed a) is

-- the octets of one attribute
pub text-one : (a : Attribute) → attributes_text (a ∷ []) ≡ attribute_text a
text-one a = append-nil (attribute_text a)

-- ---- sub-attributes that are left

-- the sub-attributes of octets, if they are some
abbrev pub subs_of : List ℕ → List Attribute
subs_of octets = unwrap_or (attributes_of octets) []

pub spelt_subs : (octets : List ℕ) (subs : List Attribute) → AreOctets octets → attributes_of octets ≡ Some subs →
    Spell octets subs
spelt_subs octets subs fits read = read_spells (length octets) octets subs (omega arith) fits read

-- those that octets are
subs-are : (octets : List ℕ) (subs : List Attribute) → attributes_of octets ≡ Some subs → subs_of octets ≡ subs
subs-are octets subs read = ap (λ (o : Option (List Attribute)). unwrap_or o []) read

-- what is counted stays within the octets
pub counted-within : (removed : List RemovedAttribute) (vendor : ℕ) (octets : List ℕ) (subs left : List Attribute)
    (size : ℕ) → AreOctets octets → attributes_of octets ≡ Some subs →
    IsCount (is_left removed vendor) (subs_of octets) left size → size ≤ length octets
counted-within removed vendor octets subs left size fits read h =
    omega (
      arith,
      h.total,
      ap (λ (l : List Attribute). length (kept_text (is_left removed vendor) l)) (subs-are octets subs read),
      length-kept_text (is_left removed vendor) subs,
      ap length (spelt_subs octets subs fits read).spelt,
    )

-- nothing is appended yet
pub appending-start : (removed : List RemovedAttribute) (vendor : ℕ) (octets before : List ℕ)
    (subs all : List Attribute)
    (size capacity : ℕ) → AreOctets octets → attributes_of octets ≡ Some subs → all ≡ subs →
    size + length (left_text removed vendor (attributes_of octets)) ≤ capacity →
    IsAppending (is_left removed vendor) (subs_of octets) all before before size capacity
appending-start removed vendor octets before subs all size capacity fits read all-is room =
    let keep : Attribute → Bool = is_left removed vendor in
    let same : all ≡ subs_of octets = all-is ∙ sym (subs-are octets subs read) in
    record {
      items = ap (λ (l : List Attribute). before ++ kept_text keep l) same;
      room = omega (
        arith,
        room,
        ap (λ (o : Option (List Attribute)). length (left_text removed vendor o)) read,
        ap (λ (l : List Attribute). length (kept_text keep l)) all-is,
      );
      short = subst (AllByRecursion IsAttribute) (sym all-is) (spelt_subs octets subs fits read).attributes;
    }

-- ---- a Vendor-Specific in parts
