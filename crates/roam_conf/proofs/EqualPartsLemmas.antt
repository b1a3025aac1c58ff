-- What the derived `==` of what the configuration's parts hold says: that what is shown is equal.
use Rattle.std.proofs.Common.{◌≡◌, ℕ, Bool, eqb, ◌&&◌, List, [], ◌∷◌, map, Option, Some, None, option_map, String, Global, string_bytes, Decides, refl, ap}
use Rattle.std.proofs.lemmas.Bool.{false≢true, and_parts}
use Rattle.std.proofs.lemmas.Bool.Decides.{Decides-and, Decides-like, Decides-eqb}
use Rattle.std.proofs.lemmas.Slice.Eq.{bytes_eq-Decides}
use Rattle.std.specs.Cmp.Lexicographic.{pointwise}
use Rattle.std.specs.Option.{option_eq}
use Rattle.std.specs.String.{string_eq}
use Rattle.std.specs.declared.vec.Vec.{Vec}
use Rattle.roam_wire.specs.contracts.removed_attribute.RemovedAttributePartialEq.TheImpl as removed_derived
use Rattle.roam_wire.specs.declared.removed_attribute.RemovedAttribute.{RemovedAttribute}
use Rattle.roam_wire.specs.declared.removed_attribute.RemovedAttribute.TheVariants.{Kind, Vendor, VendorKind}
use Rattle.roam_conf.specs.contracts.accounting.AccountingPartialEq.TheImpl as accounting_derived
use Rattle.roam_conf.specs.contracts.pattern.RealmPatternPartialEq.TheImpl as derived
use Rattle.roam_conf.specs.declared.accounting.Accounting.{Accounting}
use Rattle.roam_conf.specs.declared.accounting.Accounting.TheVariants.{Forwarded, Answered, Dropped}
use Rattle.roam_address.specs.declared.endpoint.Endpoint.{Endpoint}
use Rattle.roam_address.specs.declared.prefix.Prefix.{Prefix}
use Rattle.roam_address.specs.Prefixes.{PrefixView, network_of, length_of, shown_prefix}
use Rattle.roam_address.specs.Same.{same_address}
use Rattle.roam_address.proofs.SameLemmas.{address_decides}
use Rattle.roam_conf.specs.declared.pattern.RealmPattern.{RealmPattern}
use Rattle.roam_conf.specs.declared.pattern.RealmPattern.TheVariants.{Name, Suffix, Any}
use Rattle.roam_conf.specs.Config.{PatternView, whole, suffix, any}
use Rattle.roam_conf.specs.Parts.{shown_names}
use Rattle.roam_conf.specs.Patterns.{shown_pattern}

-- lists whose elements are compared one by one
pub list_decides : {X V : Type 0} (same : X → X → Bool) (view : X → V) →
    ((a b : X) → Decides (same a b) (view a ≡ view b)) → (xs ys : List X) →
    Decides (pointwise same xs ys) (map view xs ≡ map view ys)
list_decides same view each [] [] = (λ _. refl, λ _. refl)
list_decides same view each [] (y ∷ ys) = (λ h. absurd (false≢true h), λ h. cc)
list_decides same view each (x ∷ xs) [] = (λ h. absurd (false≢true h), λ h. cc)
list_decides same view each (x ∷ xs) (y ∷ ys) =
    let rest = list_decides same view each xs ys in (
      λ h.
          let both = and_parts (same x y) (pointwise same xs ys) h in
          let here : view x ≡ view y = (each x y).0 both.0 in
          let more : map view xs ≡ map view ys = rest.0 both.1 in
          cc,
      λ h.
          let here : view x ≡ view y = cc in
          let more : map view xs ≡ map view ys = cc in
          rw ((each x y).1 here, rest.1 more),
    )

pub whole_list_decides : {X : Type 0} (same : X → X → Bool) → ((a b : X) → Decides (same a b) (a ≡ b)) →
    (xs ys : List X) → Decides (pointwise same xs ys) (xs ≡ ys)
whole_list_decides same each [] [] = (λ _. refl, λ _. refl)
whole_list_decides same each [] (y ∷ ys) = (λ h. absurd (false≢true h), λ h. cc)
whole_list_decides same each (x ∷ xs) [] = (λ h. absurd (false≢true h), λ h. cc)
whole_list_decides same each (x ∷ xs) (y ∷ ys) =
    let rest = whole_list_decides same each xs ys in (
      λ h.
          let both = and_parts (same x y) (pointwise same xs ys) h in
          let here : x ≡ y = (each x y).0 both.0 in
          let more : xs ≡ ys = rest.0 both.1 in
          cc,
      λ h.
          let here : x ≡ y = cc in
          let more : xs ≡ ys = cc in
          rw ((each x y).1 here, rest.1 more),
    )

pub option_decides : {X V : Type 0} (same : X → X → Bool) (view : X → V) →
    ((a b : X) → Decides (same a b) (view a ≡ view b)) → (o p : Option X) →
    Decides (option_eq same o p) (option_map view o ≡ option_map view p)
option_decides same view each None None = (λ _. refl, λ _. refl)
option_decides same view each None (Some y) = (λ h. absurd (false≢true h), λ h. cc)
option_decides same view each (Some x) None = (λ h. absurd (false≢true h), λ h. cc)
option_decides same view each (Some x) (Some y) =
    (λ h. ap (λ v. Some v) ((each x y).0 h), λ h. let here : view x ≡ view y = cc in (each x y).1 here)

pub whole_option_decides : {X : Type 0} (same : X → X → Bool) → ((a b : X) → Decides (same a b) (a ≡ b)) →
    (o p : Option X) → Decides (option_eq same o p) (o ≡ p)
whole_option_decides same each None None = (λ _. refl, λ _. refl)
whole_option_decides same each None (Some y) = (λ h. absurd (false≢true h), λ h. cc)
whole_option_decides same each (Some x) None = (λ h. absurd (false≢true h), λ h. cc)
whole_option_decides same each (Some x) (Some y) =
    (λ h. ap (λ v. Some v) ((each x y).0 h), λ h. let here : x ≡ y = cc in (each x y).1 here)

pub text_decides : (a b : String Global) → Decides (string_eq a b) (string_bytes a ≡ string_bytes b)
text_decides a b = bytes_eq-Decides (string_bytes a) (string_bytes b)

-- the tests as the derives write them
abbrev pub endpoint_eq : Endpoint → Endpoint → Bool
endpoint_eq a b = same_address a.ip b.ip && eqb a.port b.port

abbrev pub prefix_eq : Prefix → Prefix → Bool
prefix_eq a b = same_address (network_of a) (network_of b) && eqb (length_of a) (length_of b)

abbrev pub removed_eq : RemovedAttribute → RemovedAttribute → Bool
removed_eq a b = removed_derived.ghosts.eq a b

abbrev pub accounting_eq : Accounting → Accounting → Bool
accounting_eq a b = accounting_derived.ghosts.eq a b

abbrev pub pattern_eq : RealmPattern → RealmPattern → Bool
pattern_eq a b = derived.ghosts.eq a b

abbrev pub names_eq : Vec (String Global) Global → Vec (String Global) Global → Bool
names_eq a b = pointwise string_eq a.items b.items

pub endpoint_decides : (a b : Endpoint) → Decides (endpoint_eq a b) (a ≡ b)
endpoint_decides a b = Decides-like {P = (a.ip ≡ b.ip) × (a.port ≡ b.port)} _
    (λ p. λ i. record { ip = p.0 i; port = p.1 i })
    (λ e. (ap (λ (x : Endpoint). x.ip) e, ap (λ (x : Endpoint). x.port) e))
    (Decides-and _ _ (address_decides a.ip b.ip) (Decides-eqb a.port b.port))

pub prefix_decides : (a b : Prefix) → Decides (prefix_eq a b) (shown_prefix a ≡ shown_prefix b)
prefix_decides a b = Decides-like {P = (network_of a ≡ network_of b) × (length_of a ≡ length_of b)} _
    (λ p. λ i. record { network = p.0 i; length = p.1 i })
    (λ e. (ap (λ (x : PrefixView). x.network) e, ap (λ (x : PrefixView). x.length) e))
    (Decides-and _ _ (address_decides (network_of a) (network_of b)) (Decides-eqb (length_of a) (length_of b)))

-- the numbers that an attribute to remove has, with the other kinds apart
abbrev kind_of : RemovedAttribute → ℕ
kind_of (Kind kind) = kind
kind_of (Vendor vendor) = 0
kind_of (VendorKind vendor kind) = kind

abbrev vendor_of : RemovedAttribute → ℕ
vendor_of (Kind kind) = 0
vendor_of (Vendor vendor) = vendor
vendor_of (VendorKind vendor kind) = vendor

pub removed_decides : (a b : RemovedAttribute) → Decides (removed_eq a b) (a ≡ b)
removed_decides (Kind a) (Kind b) =
    (λ h. ap (λ n. Kind n) ((Decides-eqb a b).0 h), λ e. (Decides-eqb a b).1 (ap kind_of e))
removed_decides (Kind a) (Vendor b) = (λ h. absurd (false≢true h), λ e. cc)
removed_decides (Kind a) (VendorKind b c) = (λ h. absurd (false≢true h), λ e. cc)
removed_decides (Vendor a) (Kind b) = (λ h. absurd (false≢true h), λ e. cc)
removed_decides (Vendor a) (Vendor b) =
    (λ h. ap (λ n. Vendor n) ((Decides-eqb a b).0 h), λ e. (Decides-eqb a b).1 (ap vendor_of e))
removed_decides (Vendor a) (VendorKind b c) = (λ h. absurd (false≢true h), λ e. cc)
removed_decides (VendorKind a c) (Kind b) = (λ h. absurd (false≢true h), λ e. cc)
removed_decides (VendorKind a c) (Vendor b) = (λ h. absurd (false≢true h), λ e. cc)
removed_decides (VendorKind a c) (VendorKind b d) = (
  λ h.
      let both = and_parts (eqb a b) (eqb c d) h in
      let vendor : a ≡ b = (Decides-eqb a b).0 both.0 in
      let kind : c ≡ d = (Decides-eqb c d).0 both.1 in
      cc,
  λ e. rw ((Decides-eqb a b).1 (ap vendor_of e), (Decides-eqb c d).1 (ap kind_of e)),
)

pub accounting_decides : (a b : Accounting) → Decides (accounting_eq a b) (a ≡ b)
accounting_decides Forwarded Forwarded = (λ _. refl, λ _. refl)
accounting_decides Forwarded Answered = (λ h. absurd (false≢true h), λ e. cc)
accounting_decides Forwarded Dropped = (λ h. absurd (false≢true h), λ e. cc)
accounting_decides Answered Forwarded = (λ h. absurd (false≢true h), λ e. cc)
accounting_decides Answered Answered = (λ _. refl, λ _. refl)
accounting_decides Answered Dropped = (λ h. absurd (false≢true h), λ e. cc)
accounting_decides Dropped Forwarded = (λ h. absurd (false≢true h), λ e. cc)
accounting_decides Dropped Answered = (λ h. absurd (false≢true h), λ e. cc)
accounting_decides Dropped Dropped = (λ _. refl, λ _. refl)

pub names_decides : (a b : Vec (String Global) Global) → Decides (names_eq a b) (shown_names a ≡ shown_names b)
names_decides a b = list_decides string_eq string_bytes text_decides a.items b.items

-- the name that a pattern has, with the other kinds apart
abbrev named : PatternView → List ℕ
named (whole name) = name
named (suffix name) = name
named any = []

pub pattern_decides : (a b : RealmPattern) → Decides (pattern_eq a b) (shown_pattern a ≡ shown_pattern b)
pattern_decides (Name a) (Name b) =
    (λ h. ap whole ((text_decides a b).0 h), λ e. (text_decides a b).1 (ap named e))
pattern_decides (Name a) (Suffix b) = (λ h. absurd (false≢true h), λ e. cc)
pattern_decides (Name a) Any = (λ h. absurd (false≢true h), λ e. cc)
pattern_decides (Suffix a) (Name b) = (λ h. absurd (false≢true h), λ e. cc)
pattern_decides (Suffix a) (Suffix b) =
    (λ h. ap suffix ((text_decides a b).0 h), λ e. (text_decides a b).1 (ap named e))
pattern_decides (Suffix a) Any = (λ h. absurd (false≢true h), λ e. cc)
pattern_decides Any (Name b) = (λ h. absurd (false≢true h), λ e. cc)
pattern_decides Any (Suffix b) = (λ h. absurd (false≢true h), λ e. cc)
pattern_decides Any Any = (λ h. refl, λ e. refl)
