-- The octets of those attributes of a list that are kept.
use Rattle.std.proofs.Common.{◌≡◌, ℕ, ◌+◌, ◌≤◌, Bool, true, inl, inr, List, [], ◌∷◌, ◌++◌, length, filter, refl, ap, ◌∙◌, arith, length-append}
use Rattle.std.specs.List.{AllByRecursion}
use Rattle.std.proofs.lemmas.Bool.{cases_Bool}
use Rattle.roam_wire.specs.Packet.{Attribute, IsAttribute, attribute_text, attributes_text}

-- the octets of the attributes that pass a test
abbrev pub kept_text : (Attribute → Bool) → List Attribute → List ℕ
kept_text keep all = attributes_text (filter keep all)

-- those that are kept take no more octets than all
pub length-kept_text : (keep : Attribute → Bool) (all : List Attribute) →
    length (kept_text keep all) ≤ length (attributes_text all)
length-kept_text keep [] = omega arith
length-kept_text keep (a ∷ all) =
    let shorter = length-kept_text keep all in
    let kept = length-append (attribute_text a) (kept_text keep all) in
    let whole = length-append (attribute_text a) (attributes_text all) in
    elim (cases_Bool (keep a)) [
      | inl passes ↦ rw passes (omega (arith, shorter, kept, whole))
      | inr fails ↦ rw fails (omega (arith, shorter, whole))
    ]

-- one that is kept stands first
kept_first : (keep : Attribute → Bool) (a : Attribute) (rest : List Attribute) → keep a ≡ true →
    kept_text keep (a ∷ rest) ≡ attribute_text a ++ kept_text keep rest
kept_first keep a rest passes = rw passes refl

-- ---- how many octets the kept ones take

-- the octets counted so far, with those of the kept ones that are left, are those of all kept ones
pub record IsCount (keep : Attribute → Bool) (all left : List Attribute) (size : ℕ) : Type 0 where
  pub total : size + length (kept_text keep left) ≡ length (kept_text keep all)

-- one more is counted
pub IsCount-kept : (keep : Attribute → Bool) (all left rest : List Attribute) (a : Attribute) (size : ℕ) →
    left ≡ a ∷ rest → keep a ≡ true → IsCount keep all left size → IsCount keep all rest (size + (2 + length a.value))
IsCount-kept keep all left rest a size split passes h =
    let here : kept_text keep left ≡ attribute_text a ++ kept_text keep rest = ap (kept_text keep) split
    ∙ kept_first keep a rest passes in
    record { total = omega (arith, h.total, ap length here, length-append (attribute_text a) (kept_text keep rest)) }

-- what is counted stays within the packet
pub IsCount-within : (keep : Attribute → Bool) (all rest : List Attribute) (size : ℕ) → IsCount keep all rest size →
    20 + length (attributes_text all) ≤ 4096 → size ≤ 4076
IsCount-within keep all rest size h limit = omega (arith, h.total, length-kept_text keep all)

-- ---- appending the kept ones

-- a buffer as it was and as it is on the way: what was appended, with the kept ones that are left, are
-- all the kept ones, and there is room for those that are left
pub record IsAppending (keep : Attribute →
    Bool) (all left : List Attribute) (before after : List ℕ) (size capacity : ℕ) : Type 0 where
  pub items : after ++ kept_text keep left ≡ before ++ kept_text keep all
  pub room : size + length (kept_text keep left) ≤ capacity
  pub short : AllByRecursion IsAttribute left
