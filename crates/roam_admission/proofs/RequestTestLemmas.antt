-- Each test of a request is true just where its fact holds.
use Rattle.std.proofs.Common.{◌≡◌, ◌≢◌, ◌⊎◌, ◌↔◌, ◌<◌, ◌≤◌, ◌%◌, ℕ, Bool, true, false, List, [], ◌∷◌, length, Option, Some, None, IsSome, IsTrue, inl, inr, refl, sym, ap, subst, ◌∙◌, arith}
use Rattle.std.specs.Prelude.{◌==◌, ◌&&◌, ◌||◌, not, nat_le, nat_lt, is_some}
use Rattle.std.specs.Option.{option_map_or}
use Rattle.std.proofs.lemmas.Bool.{cases_Bool}
use Rattle.std.proofs.lemmas.Bool.Decides.{Decides-eqb, nat_tests}
use Rattle.roam_wire.specs.Packet.{Packet}
use Rattle.roam_wire.specs.Attributes.{count_of, first_value}
use Rattle.roam_wire.specs.declared.attribute_type.TheConstants.{CHAP_PASSWORD, EAP_MESSAGE, MESSAGE_AUTHENTICATOR, PROXY_STATE, USER_PASSWORD}
use Rattle.roam_wire.specs.declared.code.TheConstants.{ACCESS_REQUEST}
use Rattle.roam_wire.specs.declared.packet_size.TheConstants.{MAX_PACKET_LENGTH}
use Rattle.roam_crypto.specs.Deciding.{is_signed_request}
use Rattle.roam_crypto.specs.MessageAuthenticator.{IsWellSealed}
use Rattle.roam_crypto.proofs.DecidingLemmas.{signed_request_decided, well_sealed_decided}
use Rattle.roam_crypto.specs.Hiding.{IsPasswordSize, password_fits}
use Rattle.roam_conf.specs.Config.{ConfigView}
use Rattle.roam_admission.specs.LocalReject.{asked_realm, has_bad_password, has_too_many_hops, is_rejected}
use Rattle.roam_admission.specs.Admission.{has_few_attributes, is_rightly_signed, is_rightly_sealed, has_needed_seal}
use Rattle.roam_admission.specs.AdmittedRequests.{HasFewAttributes, IsRightlySigned, sealing_authenticator, HasNeededSeal, HasFewHops, HasGoodPasswords, IsPassedOn}
use Rattle.roam_admission.specs.declared.job.Side.{Side}

-- ---- the tests

-- a test that isn't true
pub is_false : (b : Bool) → (IsTrue b → ⊥) → b ≡ false
is_false true h = absurd (h refl)
is_false false h = refl

-- a test is true or its fact doesn't hold
signed_by : (code : ℕ) (signed : Bool) {P : Type 0} → (IsTrue signed ↔ P)
    → IsTrue (code == ACCESS_REQUEST || signed) ↔ (code ≢ ACCESS_REQUEST → P)
signed_by code signed d =
    elim (cases_Bool (code == ACCESS_REQUEST)) [
      | inl access ↦
          let is : code ≡ ACCESS_REQUEST = (Decides-eqb code ACCESS_REQUEST).0 access in
          rw access (λ h. λ other. absurd (other is), λ h. refl)
      | inr other ↦ rw other (
        λ h. λ not_access. d.0 h,
        λ h. d.1 (h (λ is. absurd (cc (sym other ∙ ap (λ (n : ℕ). n == ACCESS_REQUEST) is)))),
      )
    ]

pub signed_decided : (secret : List ℕ) (p : Packet)
    → IsTrue (is_rightly_signed secret p) ↔ IsRightlySigned secret p
signed_decided secret p =
    signed_by p.code (is_signed_request secret p) (signed_request_decided secret p)

pub sealed_decided : (secret : List ℕ) (p : Packet)
    → IsTrue (is_rightly_sealed secret p)
    ↔ IsWellSealed secret (sealing_authenticator p ∷ []) p
sealed_decided secret p = well_sealed_decided secret (sealing_authenticator p ∷ []) p

needed_by : (required : Bool) (code eap seals : ℕ)
    → IsTrue (not (code == ACCESS_REQUEST) || nat_lt 0 seals || (eap == 0 && not required))
    ↔ (code ≡ ACCESS_REQUEST → (0 < eap) ⊎ IsTrue required → 0 < seals)
needed_by true code eap seals = (
  λ h. λ access needed. grind (arith, nat_tests, h, access),
  λ h. grind (arith, nat_tests, h),
)
needed_by false code eap seals = (
  λ h. λ access needed. grind (arith, nat_tests, h, access, needed),
  λ h. grind (arith, nat_tests, h),
)

pub needed_decided : (required : Bool) (p : Packet)
    → IsTrue (has_needed_seal required p) ↔ HasNeededSeal required p
needed_decided required p =
    needed_by required p.code (count_of EAP_MESSAGE p.attributes)
    (count_of MESSAGE_AUTHENTICATOR p.attributes)

pub attributes_decided : (most : Option ℕ) (p : Packet)
    → IsTrue (has_few_attributes most p) ↔ HasFewAttributes most p
attributes_decided None p = (λ h. λ limit is. absurd (cc is), λ h. refl)
attributes_decided (Some most) p =
    let count = length p.attributes in (
      λ h. λ limit is. (let same : most ≡ limit = cc is in grind (arith, nat_tests, h, same)),
      λ h. (let few : count ≤ most = h most refl in grind (arith, nat_tests, few)),
    )

pub hops_decided : (most : Option ℕ) (p : Packet)
    → IsTrue (not (has_too_many_hops most p)) ↔ HasFewHops most p
hops_decided None p = (λ h. λ limit is. absurd (cc is), λ h. refl)
hops_decided (Some most) p =
    let count = count_of PROXY_STATE p.attributes in (
      λ h. λ limit is. (let same : most ≡ limit = cc is in grind (arith, nat_tests, h, same)),
      λ h. (let few : count ≤ most = h most refl in grind (arith, nat_tests, few)),
    )

pub size_by : (size : ℕ) → IsTrue (nat_le size MAX_PACKET_LENGTH) ↔ (size ≤ MAX_PACKET_LENGTH)
size_by size = (λ h. grind (arith, nat_tests, h), λ h. grind (arith, nat_tests, h))

fits_by : (size : ℕ) → IsTrue (nat_le 16 size && nat_le size 128 && size % 16 == 0)
    ↔ IsPasswordSize size
fits_by size = (
  λ h. (grind (arith, nat_tests, h), grind (arith, nat_tests, h), grind (arith, nat_tests, h)),
  λ h. (
      let least = h.0 in let most = h.1 in let whole = h.2 in
      grind (arith, nat_tests, least, most, whole)
      ),
)

-- the first User-Password, if there is one, has a size that it can have
first_fits : (o : Option (List ℕ))
    → IsTrue (not (option_map_or (λ (value : List ℕ). not (password_fits value)) o false))
    ↔ ((value : List ℕ) → o ≡ Some value → IsPasswordSize (length value))
first_fits None = (λ h. λ value is. absurd (cc is), λ h. refl)
first_fits (Some first) =
    elim (cases_Bool (password_fits first)) [
      | inl fits ↦ (
        λ h. λ value is. (
            let same : first ≡ value = cc is in
            subst (λ (v : List ℕ). IsPasswordSize (length v)) same ((fits_by (length first)).0 fits)
            ),
        λ h. rw fits refl,
      )
      | inr wrong ↦ (
        λ h. absurd (let k : false ≡ true = rw wrong at h in cc k),
        λ h. absurd (cc (sym wrong ∙ (fits_by (length first)).1 (h first refl))),
      )
    ]

-- no two of one kind, none beside the other, and no wrong size
three_by : (users chaps : ℕ) (wrong : Bool) {P : Type 0} → (IsTrue (not wrong) ↔ P)
    → IsTrue (not ((nat_lt 0 users && nat_lt 0 chaps) || nat_lt 1 users || wrong))
    ↔ ((users ≤ 1) × ((0 < users → chaps ≡ 0) × P))
three_by users chaps true d = (
  λ h. absurd (grind (arith, nat_tests, h)),
  λ h. absurd (cc (d.1 h.1.1)),
)
three_by users chaps false d = (
  λ h. (grind (arith, nat_tests, h), (λ some. grind (arith, nat_tests, h, some), d.0 refl)),
  λ h. (let one = h.0 in let apart = h.1.0 in grind (arith, nat_tests, one, apart)),
)

passwords_decided : (p : Packet) → IsTrue (not (has_bad_password p)) ↔ HasGoodPasswords p
passwords_decided p =
    let three = three_by (count_of USER_PASSWORD p.attributes) (count_of CHAP_PASSWORD p.attributes)
    (option_map_or (λ (value : List ℕ). not (password_fits value)) (first_value USER_PASSWORD p.attributes) false)
    (first_fits (first_value USER_PASSWORD p.attributes)) in (
      λ h. record { one = (three.0 h).0; apart = (three.0 h).1.0; size = (three.0 h).1.1 },
      λ h. three.1 (h.one, (h.apart, h.size)),
    )

-- there is a realm
some_by : (o : Option ℕ) → IsTrue (is_some o) ↔ IsSome o
some_by None = (λ h. absurd (cc h), λ h. absurd (cc h))
some_by (Some x) = (λ h. refl, λ h. refl)

-- what isn't rejected is passed on
none_of : (named bad many : Bool) → (not named || bad || many) ≡ false
    ↔ (IsTrue named × (IsTrue (not bad) × IsTrue (not many)))
none_of true false false = (λ h. (refl, (refl, refl)), λ h. refl)
none_of true false true = (λ h. absurd (cc h), λ h. absurd (cc h.1.1))
none_of true true many = (λ h. absurd (cc h), λ h. absurd (cc h.1.0))
none_of false bad many = (λ h. absurd (cc h), λ h. absurd (cc h.0))

pub passed_decided : (config : ConfigView) (s : Side) (p : Packet)
    → (is_rejected config s p ≡ false) ↔ IsPassedOn config s p
passed_decided config s p =
    let named = asked_realm config s p.attributes in
    let all = none_of (is_some named) (has_bad_password p) (has_too_many_hops config.max_hops p) in (
      λ h. record {
        names = (some_by named).0 (all.0 h).0;
        passwords = (passwords_decided p).0 (all.0 h).1.0;
        hops = (hops_decided config.max_hops p).0 (all.0 h).1.1;
      },
      λ h. all.1 (
        (some_by named).1 h.names,
        ((passwords_decided p).1 h.passwords, (hops_decided config.max_hops p).1 h.hops),
      ),
    )
