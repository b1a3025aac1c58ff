-- The test of salted strings says what the relation says.
use Rattle.std.proofs.Common.{◌≡◌, ℕ, ◌==◌, Bool, true, false, List, ◌∷◌, Option, Some, None, take, refl, sym, ap, ◌∙◌, subst, inl, inr, arith}
use Rattle.std.specs.Prelude.{◌⊎◌, ◌&&◌, ◌||◌, Any, IsSome}
use Rattle.std.specs.List.{list_any}
use Rattle.std.specs.Option.{is_some, option_map_or}
use Rattle.std.proofs.lemmas.Bool.Decides.{nat_tests}
use Rattle.std.proofs.lemmas.List.Folds.{Any-from_list_any, list_any-from_Any}
use Rattle.roam_wire.specs.Packet.{Attribute, Packet}
use Rattle.roam_wire.specs.declared.attribute_type.TheConstants.{VENDOR_SPECIFIC}
use Rattle.roam_crypto.specs.SaltedKinds.{salting_of}
use Rattle.roam_crypto.specs.SaltedValues.{vendor_number, HoldsSalted, IsSaltedAttribute, IsSalted}
use Rattle.roam_crypto.specs.SaltedFunctions.{vendor_subs}
use Rattle.roam_crypto.specs.Salted.{is_salted_sub, holds_salted, is_salted_attribute, is_salted}
use Rattle.roam_crypto.proofs.VendorLemmas.{vendor_subs_spelt, front_is, vendor_subs_read}

-- a test, and what it means
abbrev pub Means : Bool → Type 0 → Type 0
Means b P = (b ≡ true → P) × (P → b ≡ true)

means-or : (p q : Bool) (P Q : Type 0) → Means p P → Means q Q → Means (p || q) (P ⊎ Q)
means-or true q P Q hp hq = (λ _. inl (hp.0 refl), λ _. refl)
means-or false true P Q hp hq = (λ _. inr (hq.0 refl), λ _. refl)
means-or false false P Q hp hq =
    (λ e. absurd (cc), λ either. elim either [ inl x ↦ hp.1 x | inr y ↦ hq.1 y ])

means-and : (p q : Bool) (P Q : Type 0) → Means p P → Means q Q → Means (p && q) (P × Q)
means-and true q P Q hp hq = (λ e. (hp.0 refl, hq.0 e), λ x. hq.1 x.1)
means-and false q P Q hp hq = (λ e. absurd (cc), λ x. hp.1 x.0)

means-equal : (a b : ℕ) → Means (a == b) (a ≡ b)
means-equal a b = (λ h. grind (arith, nat_tests), λ e. grind (arith, nat_tests))

means-any : {X : Type 0} (test : X → Bool) (P : X → Type 0) → ((x : X) → Means (test x) (P x))
    → (xs : List X) → Means (list_any test xs) (Any P xs)
means-any test P each xs = (
  λ h. let some = Any-from_list_any test xs h in
      (some.0, some.1, some.2, some.3, (each some.1).0 some.4),
  λ some. list_any-from_Any test xs (some.0, some.1, some.2, some.3, (each some.1).1 some.4),
)

-- ---- the value of a Vendor-Specific

-- some sub-attribute of a vendor's
abbrev AnySalted : List ℕ → List Attribute → Type 0
AnySalted vendor subs = Any (λ (sub : Attribute). IsSome (salting_of (Some (vendor_number vendor)) sub.kind)) subs

means-subs : (vendor : List ℕ) (subs : List Attribute)
    → Means (list_any (is_salted_sub (vendor_number vendor)) subs) (AnySalted vendor subs)
means-subs vendor subs =
    means-any (is_salted_sub (vendor_number vendor))
    (λ (sub : Attribute). IsSome (salting_of (Some (vendor_number vendor)) sub.kind)) (λ sub. (λ h. h, λ h. h)) subs

held : (value : List ℕ) (read : Option (List Attribute)) → vendor_subs value ≡ read
    → option_map_or (list_any (is_salted_sub (vendor_number (take 4 value)))) read false ≡ true → HoldsSalted value
held value None e h = absurd (cc)
held value (Some subs) e h = record {
  vendor = take 4 value;
  subs = subs;
  is = vendor_subs_spelt value subs e;
  some = (means-subs (take 4 value) subs).0 h;
}

means-held : (value : List ℕ) → Means (holds_salted value) (HoldsSalted value)
means-held value = (
  λ h. held value (vendor_subs value) refl h,
  λ holds.
      let front : take 4 value ≡ holds.vendor = front_is holds.vendor holds.subs value holds.is in
      let some : AnySalted (take 4 value) holds.subs =
      subst (λ (vendor : List ℕ). AnySalted vendor holds.subs) (sym front) holds.some in
      ap (λ (o : Option (List Attribute)). option_map_or (list_any (is_salted_sub (vendor_number (take 4 value)))) o
      false) (vendor_subs_read holds.vendor holds.subs value holds.is)
      ∙ (means-subs (take 4 value) holds.subs).1 some,
)

-- ---- attributes, and all of them

means-attribute : (a : Attribute) → Means (is_salted_attribute a) (IsSaltedAttribute a)
means-attribute a =
    means-or (is_some (salting_of None a.kind)) (a.kind == VENDOR_SPECIFIC && holds_salted a.value)
    (IsSome (salting_of None a.kind)) ((a.kind ≡ VENDOR_SPECIFIC) × HoldsSalted a.value) (λ h. h, λ h. h)
    (means-and (a.kind == VENDOR_SPECIFIC) (holds_salted a.value) (a.kind ≡ VENDOR_SPECIFIC) (HoldsSalted a.value)
    (means-equal a.kind VENDOR_SPECIFIC) (means-held a.value))

pub means-salted : (packet : Packet) → Means (is_salted packet.attributes) (IsSalted packet)
unfolding is_salted
means-salted packet = means-any is_salted_attribute IsSaltedAttribute means-attribute packet.attributes

-- ---- a walk over a list

-- the first is it
pub any-first : {X : Type 0} (test : X → Bool) (x : X) (xs : List X) → test x ≡ true → list_any test (x ∷ xs) ≡ true
any-first test x xs is = ap (λ (b : Bool). b || list_any test xs) is

-- the first isn't it
pub any-behind : {X : Type 0} (test : X → Bool) (x : X) (xs : List X) → test x ≡ false
    → list_any test (x ∷ xs) ≡ list_any test xs
any-behind test x xs other = ap (λ (b : Bool). b || list_any test xs) other
