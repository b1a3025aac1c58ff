-- Attributes with salted strings are hidden anew in just one way, and keep their size.
use Rattle.std.proofs.Common.{◌≡◌, ◌≢◌, ℕ, ◌-◌, ◌≤◌, Bool, true, false, List, [], ◌∷◌, ◌++◌, length, take, drop, Option, Some, None, refl, sym, ap, ap₂, ◌∙◌, subst, inl, inr, arith, append-nil, length-append, length-drop}
use Rattle.std.specs.Prelude.{◌⊎◌, if◌then◌else◌, nat_le, map}
use Rattle.std.specs.Option.{is_some, option_map_or}
use Rattle.std.specs.List.{AllZip}
use Rattle.std.proofs.lemmas.Bool.{cases_eq, eq-eqb, ne_eqb}
use Rattle.std.proofs.lemmas.Bool.Decides.{nat_tests}
use Rattle.std.proofs.lemmas.Option.{same_Some}
use Rattle.std.proofs.lemmas.List.{take-append-drop, take_at, drop_at, take_all, drop_all, length-take-le}
use Rattle.roam_wire.specs.Packet.{Attribute, attributes_text}
use Rattle.roam_wire.specs.Reading.{attributes_of}
use Rattle.roam_wire.specs.declared.attribute_type.TheConstants.{PROXY_STATE, MESSAGE_AUTHENTICATOR, VENDOR_SPECIFIC}
use Rattle.roam_crypto.specs.declared.salted_kinds.Salting.{Salting}
use Rattle.roam_crypto.specs.Hiding.{Key}
use Rattle.roam_crypto.specs.SaltedKinds.{salting_of}
use Rattle.roam_crypto.specs.SaltedValues.{vendor_number, IsVendorValue, IsValueAnew, IsSubAttributeAnew, IsVendorAnew, IsAttributeAnew}
use Rattle.roam_crypto.specs.SaltedFunctions.{value_anew, sub_attribute_anew, subs_anew, vendor_subs, vendor_anew, salted_hidden_anew}
use Rattle.roam_crypto.proofs.SaltedFunctionLemmas.{value_anew_is, same_value_anew, length_value_anew}
use Rattle.roam_crypto.proofs.SubAttributeLemmas.{subs_read, read_spells}

-- ---- sub-attributes

sub_attribute_anew_is : (from to : Key) (vendor : ℕ) (old : Attribute)
    → IsSubAttributeAnew from to vendor old (sub_attribute_anew from to vendor old)
sub_attribute_anew_is from to vendor old =
    record { kind = refl; value = value_anew_is from to (salting_of (Some vendor) old.kind) old.value }

same_attribute : (a b : Attribute) → a.kind ≡ b.kind → a.value ≡ b.value → a ≡ b
same_attribute a b kinds values = ap₂
    (λ (kind : ℕ) (value : List ℕ). let sub : Attribute = record { kind = kind; value = value } in
    sub) kinds values

same_sub_attribute_anew : (from to : Key) (vendor : ℕ) (old a b : Attribute)
    → IsSubAttributeAnew from to vendor old a → IsSubAttributeAnew from to vendor old b → a ≡ b
same_sub_attribute_anew from to vendor old a b p q =
    same_attribute a b (p.kind ∙ sym q.kind)
    (same_value_anew from to (salting_of (Some vendor) old.kind) old.value a.value b.value p.value q.value)

subs_anew_are : (from to : Key) (vendor : ℕ) (subs : List Attribute)
    → AllZip (IsSubAttributeAnew from to vendor) subs (map (sub_attribute_anew from to vendor) subs)
subs_anew_are from to vendor [] = tt
subs_anew_are from to vendor (sub ∷ others) =
    (sub_attribute_anew_is from to vendor sub, subs_anew_are from to vendor others)

same_subs_anew : (from to : Key) (vendor : ℕ) (subs a b : List Attribute)
    → AllZip (IsSubAttributeAnew from to vendor) subs a → AllZip (IsSubAttributeAnew from to vendor) subs b
    → a ≡ b
same_subs_anew from to vendor [] [] [] p q = refl
same_subs_anew from to vendor [] [] (y ∷ ys) p q = absurd q
same_subs_anew from to vendor [] (x ∷ xs) b p q = absurd p
same_subs_anew from to vendor (sub ∷ others) [] b p q = absurd p
same_subs_anew from to vendor (sub ∷ others) (x ∷ xs) [] p q = absurd q
same_subs_anew from to vendor (sub ∷ others) (x ∷ xs) (y ∷ ys) p q =
    ap₂ (λ (z : Attribute) (zs : List Attribute). z ∷ zs)
    (same_sub_attribute_anew from to vendor sub x y p.0 q.0)
    (same_subs_anew from to vendor others xs ys p.1 q.1)

length_subs_anew : (from to : Key) (vendor : ℕ) (old new : List Attribute)
    → AllZip (IsSubAttributeAnew from to vendor) old new
    → length (attributes_text new) ≡ length (attributes_text old)
length_subs_anew from to vendor [] [] p = refl
length_subs_anew from to vendor [] (y ∷ ys) p = absurd p
length_subs_anew from to vendor (x ∷ xs) [] p = absurd p
length_subs_anew from to vendor (x ∷ xs) (y ∷ ys) p =
    omega (
      arith,
      length-append x.value (attributes_text xs),
      length-append y.value (attributes_text ys),
      length_value_anew from to (salting_of (Some vendor) x.kind) x.value y.value p.0.value,
      length_subs_anew from to vendor xs ys p.1,
    )

-- ---- the value of a Vendor-Specific

pub where_there : (b : Bool) (o : Option (List Attribute)) (subs : List Attribute)
    → (if b then o else None) ≡ Some subs → (b ≡ true) × (o ≡ Some subs)
where_there true o subs h = (refl, h)
where_there false o subs h = absurd (cc)

-- what is read from a value spells it
pub vendor_subs_spelt : (value : List ℕ) (subs : List Attribute) → vendor_subs value ≡ Some subs
    → IsVendorValue (take 4 value) subs value
vendor_subs_spelt value subs h =
    let read = where_there (nat_le 4 (length value)) (attributes_of (drop 4 value)) subs h in
    let four : 4 ≤ length value = grind (arith, nat_tests, read.0) in
    record {
      four_octets = length-take-le 4 value four;
      spelt = sym (take-append-drop 4 value)
          ∙ ap (λ (t : List ℕ). take 4 value ++ t)
          (read_spells (length (drop 4 value)) (drop 4 value) subs (omega arith) read.1);
    }

pub front_is : (vendor : List ℕ) (subs : List Attribute) (value : List ℕ) → IsVendorValue vendor subs value
    → take 4 value ≡ vendor
front_is vendor subs value h = ap (take 4) h.spelt ∙ take_at vendor (attributes_text subs) 4 h.four_octets

-- what spells a value is read from it
pub vendor_subs_read : (vendor : List ℕ) (subs : List Attribute) (value : List ℕ)
    → IsVendorValue vendor subs value → vendor_subs value ≡ Some subs
vendor_subs_read vendor subs value h =
    let text : List ℕ = attributes_text subs in
    let behind : drop 4 value ≡ text = ap (drop 4) h.spelt ∙ drop_at vendor text 4 h.four_octets in
    let four : 4 ≤ length value = omega (arith, ap length h.spelt, length-append vendor text, h.four_octets) in
    let there : nat_le 4 (length value) ≡ true = grind (arith, nat_tests) in
    ap (λ (b : Bool). if b then attributes_of (drop 4 value) else None) there
    ∙ ap attributes_of behind ∙ subs_read subs

-- whether a value is well formed
pub vendor_or_not : (value : List ℕ)
    → ((subs : List Attribute) × (vendor_subs value ≡ Some subs)) ⊎ (vendor_subs value ≡ None)
vendor_or_not value = some_or_none (vendor_subs value)
  where
    some_or_none : (o : Option (List Attribute)) → ((subs : List Attribute) × (o ≡ Some subs)) ⊎
        (o ≡ None)
    some_or_none None = inr refl
    some_or_none (Some subs) = inl (subs, refl)

not_well_formed : (value : List ℕ) → vendor_subs value ≡ None → (vendor : List ℕ) (subs : List Attribute)
    → ¬ IsVendorValue vendor subs value
not_well_formed value none vendor subs h =
    let read : vendor_subs value ≡ Some subs = vendor_subs_read vendor subs value h in
    absurd (cc)

pub vendor_anew_is : (from to : Key) (old : List ℕ) → IsVendorAnew from to old (vendor_anew from to old)
vendor_anew_is from to old =
    let anew : List Attribute → List ℕ = subs_anew from to (take 4 old) in
    let chosen : Option (List Attribute) → List ℕ = λ o. option_map_or anew o old in
    elim (vendor_or_not old) [
      | inl has ↦
          let is : IsVendorAnew from to old (anew has.0) = record {
            well_formed = λ vendor subs h.
                let same : has.0 ≡ subs =
                same_Some has.0 subs (sym has.1 ∙ vendor_subs_read vendor subs old h) in (
                  map (sub_attribute_anew from to (vendor_number vendor)) subs,
                  record {
                    four_octets = h.four_octets;
                    spelt = ap₂ (subs_anew from to) (front_is vendor subs old h) same;
                  },
                  subs_anew_are from to (vendor_number vendor) subs,
                );
            other = λ lacks. absurd (lacks (take 4 old) has.0 (vendor_subs_spelt old has.0 has.1));
          } in
          subst (IsVendorAnew from to old) (sym (ap chosen has.1)) is
      | inr none ↦
          let is : IsVendorAnew from to old old = record {
            well_formed = λ vendor subs h. absurd (not_well_formed old none vendor subs h);
            other = λ _. refl;
          } in
          subst (IsVendorAnew from to old) (sym (ap chosen none)) is
    ]

same_vendor_anew : (from to : Key) (old a b : List ℕ) → IsVendorAnew from to old a
    → IsVendorAnew from to old b → a ≡ b
same_vendor_anew from to old a b p q =
    elim (vendor_or_not old) [
      | inl has ↦
          let spelt = vendor_subs_spelt old has.0 has.1 in
          let first = p.well_formed (take 4 old) has.0 spelt in
          let second = q.well_formed (take 4 old) has.0 spelt in
          first.1.spelt
          ∙ ap (λ (l : List Attribute). take 4 old ++ attributes_text l)
          (same_subs_anew from to (vendor_number (take 4 old)) has.0 first.0 second.0 first.2 second.2)
          ∙ sym second.1.spelt
      | inr none ↦ p.other (not_well_formed old none) ∙ sym (q.other (not_well_formed old none))
    ]

length_vendor_anew : (from to : Key) (old new : List ℕ) → IsVendorAnew from to old new
    → length new ≡ length old
length_vendor_anew from to old new p =
    elim (vendor_or_not old) [
      | inl has ↦
          let vendor : List ℕ = take 4 old in
          let spelt = vendor_subs_spelt old has.0 has.1 in
          let made = p.well_formed vendor has.0 spelt in
          omega (
            arith,
            ap length made.1.spelt,
            ap length spelt.spelt,
            length-append vendor (attributes_text has.0),
            length-append vendor (attributes_text made.0),
            length_subs_anew from to (vendor_number vendor) has.0 made.0 made.2,
          )
      | inr none ↦ ap length (p.other (not_well_formed old none))
    ]

pub is_vendor_anew : (from to : Key) (old new : List ℕ) → IsVendorAnew from to old new
    → new ≡ vendor_anew from to old
is_vendor_anew from to old new p =
    same_vendor_anew from to old new (vendor_anew from to old) p (vendor_anew_is from to old)

-- ---- such a value in its octets

pub well_formed_subs : (value : List ℕ) → is_some (vendor_subs value) ≡ true
    → (subs : List Attribute) × (vendor_subs value ≡ Some subs)
well_formed_subs value is =
    elim (vendor_or_not value) [
      | inl has ↦ has
      | inr none ↦ absurd (no_value (vendor_subs value) none is)
    ]
  where
    no_value : (o : Option (List Attribute)) → o ≡ None → is_some o ≡ true → ⊥
    no_value None none is = absurd (cc)
    no_value (Some subs) none is = absurd (cc)

-- the octets behind the vendor are those of its sub-attributes
pub behind_spelt : (value : List ℕ) (subs : List Attribute) → vendor_subs value ≡ Some subs
    → take (length value - 4) (drop 4 value) ≡ attributes_text subs
behind_spelt value subs read =
    let h = vendor_subs_spelt value subs read in
    take_all (length value - 4) (drop 4 value) (omega (arith, length-drop 4 value))
    ∙ ap (drop 4) h.spelt ∙ drop_at (take 4 value) (attributes_text subs) 4 h.four_octets

-- and others are written there
pub vendor_written : (from to : Key) (old written : List ℕ) (subs : List Attribute) (vendor : ℕ)
    → vendor_subs old ≡ Some subs → vendor ≡ vendor_number (take 4 old)
    → written ≡ attributes_text (map (sub_attribute_anew from to vendor) subs)
    → IsVendorAnew from to old (take 4 old ++ (written ++ drop (length old - 4) (drop 4 old)))
vendor_written from to old written subs vendor read vendor_is is =
    let chosen : Option (List Attribute) → List ℕ = λ o. option_map_or (subs_anew from to (take 4 old)) o old in
    let none : drop (length old - 4) (drop 4 old) ≡ [] =
    drop_all (length old - 4) (drop 4 old) (omega (arith, length-drop 4 old)) in
    let same : take 4 old ++ (written ++ drop (length old - 4) (drop 4 old)) ≡ vendor_anew from to old =
    ap (λ (t : List ℕ). take 4 old ++ (written ++ t)) none
    ∙ ap (λ (t : List ℕ). take 4 old ++ t) (append-nil written ∙ is)
    ∙ ap (λ (n : ℕ). take 4 old ++ attributes_text (map (sub_attribute_anew from to n) subs)) vendor_is
    ∙ sym (ap chosen read) in
    subst (IsVendorAnew from to old) (sym same) (vendor_anew_is from to old)

-- one that isn't well formed stays
pub malformed_stays : (from to : Key) (old : List ℕ) → is_some (vendor_subs old) ≡ false
    → IsVendorAnew from to old old
malformed_stays from to old malformed =
    elim (vendor_or_not old) [
      | inl has ↦ absurd (cc (ap is_some has.1))
      | inr none ↦ subst (IsVendorAnew from to old)
          (ap (λ (o : Option (List Attribute)). option_map_or (subs_anew from to (take 4 old)) o old) none)
          (vendor_anew_is from to old)
    ]

-- ---- an attribute

pub salted_hidden_anew_is : (from to : Key) (old : Attribute)
    → IsAttributeAnew from to old (salted_hidden_anew from to old)
salted_hidden_anew_is from to old =
    let x : List ℕ = vendor_anew from to old.value in
    let y : List ℕ = value_anew from to (salting_of None old.kind) old.value in
    let chosen : Bool → List ℕ = λ b. if b then x else y in
    record {
      kind = refl;
      vendor_specific = λ is. subst (IsVendorAnew from to old.value)
          (sym (ap chosen (eq-eqb old.kind VENDOR_SPECIFIC is))) (vendor_anew_is from to old.value);
      other = λ another. subst (IsValueAnew from to (salting_of None old.kind) old.value)
          (sym (ap chosen (ne_eqb old.kind VENDOR_SPECIFIC another)))
          (value_anew_is from to (salting_of None old.kind) old.value);
    }

pub same_attribute_anew : (from to : Key) (old a b : Attribute) → IsAttributeAnew from to old a
    → IsAttributeAnew from to old b → a ≡ b
same_attribute_anew from to old a b p q =
    same_attribute a b (p.kind ∙ sym q.kind) (elim (cases_eq old.kind VENDOR_SPECIFIC) [
      | inl is ↦ same_vendor_anew from to old.value a.value b.value (p.vendor_specific is) (q.vendor_specific is)
      | inr other ↦ same_value_anew from to (salting_of None old.kind) old.value a.value b.value (p.other other)
          (q.other other)
    ])

pub length_attribute_anew : (from to : Key) (old new : Attribute) → IsAttributeAnew from to old new
    → length new.value ≡ length old.value
length_attribute_anew from to old new p =
    elim (cases_eq old.kind VENDOR_SPECIFIC) [
      | inl is ↦ length_vendor_anew from to old.value new.value (p.vendor_specific is)
      | inr other ↦ length_value_anew from to (salting_of None old.kind) old.value new.value (p.other other)
    ]

-- one without a salted string stays
pub unsalted_stays : (from to : Key) (a : Attribute) → salting_of None a.kind ≡ None → a.kind ≢ VENDOR_SPECIFIC
    → salted_hidden_anew from to a ≡ a
unsalted_stays from to a none other =
    let x : List ℕ = vendor_anew from to a.value in
    let y : List ℕ = value_anew from to (salting_of None a.kind) a.value in
    let value : (salted_hidden_anew from to a).value ≡ a.value =
    ap (λ (b : Bool). if b then x else y) (ne_eqb a.kind VENDOR_SPECIFIC other)
    ∙ ap (λ (o : Option Salting). value_anew from to o a.value) none in
    same_attribute (salted_hidden_anew from to a) a refl value

-- as a Proxy-State and a Message-Authenticator
pub proxy_state_unsalted : salting_of None PROXY_STATE ≡ None
unfolding salting_of
proxy_state_unsalted = refl

pub message_authenticator_unsalted : salting_of None MESSAGE_AUTHENTICATOR ≡ None
unfolding salting_of
message_authenticator_unsalted = refl
