-- The Authenticators over which a reply may be sealed, and the fault of a reply that isn't taken.
use Rattle.std.proofs.Common.{◌≡◌, ◌↔◌, ◌<◌, inl, inr, ℕ, Bool, true, false, List, [], ◌∷◌, Option, Some, None, IsTrue, refl, arith, eqb, ltb}
use Rattle.std.specs.Prelude.{not, ◌&&◌, ◌||◌, if◌then◌else◌}
use Rattle.std.proofs.lemmas.Bool.Decides.{nat_tests}
use Rattle.roam_wire.specs.Attributes.{count_of}
use Rattle.roam_wire.specs.declared.attribute_type.TheConstants.{EAP_MESSAGE, MESSAGE_AUTHENTICATOR}
use Rattle.roam_wire.specs.declared.refusal.Refusal.{Refusal}
use Rattle.roam_wire.specs.declared.refusal.Refusal.TheVariants as refusal
use Rattle.roam_wire.specs.Packet.{Packet}
use Rattle.roam_crypto.specs.Authenticators.{zero_octets, IsSignedReply}
use Rattle.roam_crypto.specs.Deciding.{is_signed_reply, is_well_sealed}
use Rattle.roam_crypto.proofs.DecidingLemmas.{signed_reply_decided, well_sealed_decided}
use Rattle.roam_crypto.specs.MessageAuthenticator.{IsWellSealed}
use Rattle.roam_crypto.proofs.SealLemmas.{IsWellSealed-two}
use Rattle.roam_wire.specs.Codes.{is_access_reply}
use Rattle.roam_reply.specs.ReplyCheck.{answers, sealing_authenticators, IsRightlySealed, has_seal_for_eap, has_required_seal, is_reply_rightly_sealed, reply_fault, TakenHasNoFault}

-- an accounting or reverse reply may be sealed over zeros too
sealing_authenticators-others : (reply forwarded : Packet) → is_access_reply reply.code ≡ false →
    sealing_authenticators reply forwarded ≡ forwarded.authenticator ∷ zero_octets ∷ []
sealing_authenticators-others reply forwarded other = rw other refl

-- so it is well sealed just where it is for zeros, if it isn't for the request's Authenticator
pub well_sealed_over_zeros : (secret : List ℕ) (reply forwarded : Packet) (over_request over_zeros : Bool) →
    is_access_reply reply.code ≡ false → over_request ≡ false →
    (IsTrue over_request ↔ IsWellSealed secret (forwarded.authenticator ∷ []) reply) →
    (IsTrue over_zeros ↔ IsWellSealed secret (zero_octets ∷ []) reply) → IsTrue over_zeros
    ↔ IsWellSealed secret (sealing_authenticators reply forwarded) reply
well_sealed_over_zeros secret reply forwarded over_request over_zeros other wrong request zeros =
    let both = IsWellSealed-two secret forwarded.authenticator zero_octets reply in
    rw (sealing_authenticators-others reply forwarded other) (
      λ sealed. both.1 (inr (zeros.0 sealed)),
      λ sealed. elim (both.0 sealed) [
        | inl first ↦ absurd (cc (request.1 first))
        | inr second ↦ zeros.1 second
      ],
    )

-- ---- why a reply isn't taken

-- a test that isn't true
is_false : (b : Bool) → (IsTrue b → ⊥) → b ≡ false
is_false true h = absurd (h refl)
is_false false h = refl

-- two tests are true just where both facts hold
both_decided : {P Q : Type 0} (a b : Bool) → (IsTrue a ↔ P) → (IsTrue b ↔ Q) → IsTrue (a && b) ↔ (P × Q)
both_decided true b first second = (λ h. (first.0 refl, second.0 h), λ h. second.1 h.1)
both_decided false b first second = (λ h. absurd (cc), λ h. absurd (cc (first.1 h.0)))

-- the test of the seal for an EAP-Message shows it, and the other way round
eap_shown : (access : Bool) (eap seals : ℕ) → IsTrue (not access || eqb eap 0 || ltb 0 seals)
    ↔ (IsTrue access → 0 < eap → 0 < seals)
eap_shown true eap seals = (λ h. λ is some. grind (arith, nat_tests, h), λ h. grind (arith, nat_tests, h refl))
eap_shown false eap seals = (λ h. λ is some. absurd (cc), λ h. refl)

-- so does the test of the seal that is required
required_shown : (required access : Bool) (seals : ℕ) → IsTrue (not required || not access || ltb 0 seals)
    ↔ (IsTrue required → IsTrue access → 0 < seals)
required_shown true true seals =
    (λ h. λ is also. grind (arith, nat_tests, h), λ h. grind (arith, nat_tests, h refl refl))
required_shown true false seals = (λ h. λ is also. absurd (cc also), λ h. refl)
required_shown false access seals = (λ h. λ is also. absurd (cc is), λ h. refl)

-- the test of the seal shows it, and the other way round
rightly_sealed_decided : (secret : List ℕ) (required : Bool) (reply forwarded : Packet) →
    IsTrue (is_reply_rightly_sealed secret required reply forwarded) ↔ IsRightlySealed secret required reply forwarded
rightly_sealed_decided secret required reply forwarded =
    let access = is_access_reply reply.code in
    let seals = count_of MESSAGE_AUTHENTICATOR reply.attributes in
    let well = is_well_sealed secret (sealing_authenticators reply forwarded) reply in
    let eap = eap_shown access (count_of EAP_MESSAGE reply.attributes) seals in
    let needed = both_decided (has_seal_for_eap reply) (has_required_seal required reply) eap
    (required_shown required access seals) in
    let both = both_decided well (has_seal_for_eap reply && has_required_seal required reply)
    (well_sealed_decided secret (sealing_authenticators reply forwarded) reply) needed in (
      λ h. record { well_sealed = (both.0 h).0; eap = (both.0 h).1.0; required_seal = (both.0 h).1.1 },
      λ h. both.1 (h.well_sealed, (h.eap, h.required_seal)),
    )

-- the fault by the three tests
abbrev pub fault_by : Bool → Bool → Bool → Option Refusal
fault_by code signed sealed =
    if not code then Some refusal.WrongReply
    else if not signed then Some refusal.BadReply
    else if not sealed then Some refusal.BadReplyMessageAuthenticator
    else None

-- there is none just where all three are true
none_by : (code signed sealed : Bool) → (fault_by code signed sealed ≡ None)
    ↔ (IsTrue code × (IsTrue signed × IsTrue sealed))
none_by true true true = (λ h. (refl, (refl, refl)), λ h. refl)
none_by true true false = (λ h. absurd (cc), λ h. absurd (cc h.1.1))
none_by true false sealed = (λ h. absurd (cc), λ h. absurd (cc h.1.0))
none_by false signed sealed = (λ h. absurd (cc), λ h. absurd (cc h.0))

pub taken_has_no_fault : TakenHasNoFault
taken_has_no_fault secret required reply forwarded =
    let code = answers forwarded.code reply.code in
    let signed = is_signed_reply secret forwarded.authenticator reply in
    let sealed = is_reply_rightly_sealed secret required reply forwarded in
    let tests = none_by code signed sealed in
    let signed_so = signed_reply_decided secret forwarded.authenticator reply in
    let sealed_so = rightly_sealed_decided secret required reply forwarded in (
      λ h. record { code = (tests.0 h).0; signed = signed_so.0 (tests.0 h).1.0; sealed = sealed_so.0 (tests.0 h).1.1 },
      λ h. tests.1 (h.code, (signed_so.1 h.signed, sealed_so.1 h.sealed)),
    )

-- where the other two tests are true, the fault is the seal's
pub bad_seal-fault : (secret : List ℕ) (required : Bool) (reply forwarded : Packet) →
    IsTrue (answers forwarded.code reply.code) → IsSignedReply secret forwarded.authenticator reply →
    (IsRightlySealed secret required reply forwarded → ⊥) →
    Some refusal.BadReplyMessageAuthenticator ≡ reply_fault secret required reply forwarded
bad_seal-fault secret required reply forwarded code signed h =
    let sealed = is_reply_rightly_sealed secret required reply forwarded in
    let yes : is_signed_reply secret forwarded.authenticator reply ≡ true =
    (signed_reply_decided secret forwarded.authenticator reply).1 signed in
    let no : sealed ≡ false = is_false sealed (λ t. h ((rightly_sealed_decided secret required reply forwarded).0 t)) in
    rw (code, yes, no) refl
