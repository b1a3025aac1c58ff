-- Message-Authenticators, and packets that are well sealed.
use Rattle.std.proofs.Common.{◌≡◌, ℕ, zero, suc, ◌<◌, ◌↔◌, ◌⊎◌, inl, inr, List, [], ◌∷◌, Some, refl, sym, ap, subst, ◌∙◌, arith, slice_index_or}
use Rattle.std.specs.Prelude.{Any}
use Rattle.roam_wire.specs.Packet.{Packet, packet_text}
use Rattle.roam_wire.specs.Attributes.{first_value}
use Rattle.roam_wire.specs.declared.attribute_type.TheConstants.{MESSAGE_AUTHENTICATOR}
use Rattle.roam_crypto.specs.Authenticators.{zero_octets, with_authenticator}
use Rattle.roam_crypto.specs.Hmac.{hmac_md5}
use Rattle.roam_crypto.specs.MessageAuthenticator.{HasOneMessageAuthenticator, HasAtMostOneMessageAuthenticator, with_value, message_authenticator, with_message_authenticator, IsSealedOver, IsWellSealed}
use Rattle.roam_crypto.proofs.DigestLemmas.{length-message_authenticator}
use Rattle.roam_crypto.proofs.ValueLemmas.{count_of-with_value, first_value-with_value, first_value-none, HasOne-with_value, with_value-again}

-- ---- the Message-Authenticator

-- it doesn't depend on the Value that stood in its place
pub message_authenticator-with_value : (secret authenticator value : List ℕ) (p : Packet) →
    message_authenticator secret authenticator (with_value value p)
    ≡ message_authenticator secret authenticator p
unfolding message_authenticator
message_authenticator-with_value secret authenticator value p =
    ap (λ (q : Packet). hmac_md5 secret (packet_text (with_authenticator authenticator q)))
    (with_value-again zero_octets value p)

-- nor on the Authenticator field
pub message_authenticator-with_authenticator : (secret authenticator field : List ℕ) (p : Packet) →
    message_authenticator secret authenticator (with_authenticator field p)
    ≡ message_authenticator secret authenticator p
unfolding message_authenticator
message_authenticator-with_authenticator secret authenticator field p = refl

-- ---- some element of a list

any_of_one : {X : Type 0} (P : X → Type 0) (a x : X) (k : ℕ) → k < 1 →
    slice_index_or (a ∷ []) k x ≡ x → P x → P a
any_of_one P a x zero below at here = subst P (sym at) here
any_of_one P a x (suc k) below at here = absurd (omega arith)

-- an element of a list of one is that one
pub Any-one : {X : Type 0} (P : X → Type 0) (a : X) → Any P (a ∷ []) → P a
Any-one P a some = any_of_one P a some.1 some.0 some.2 some.3 some.4

pub Any-here : {X : Type 0} (P : X → Type 0) (a : X) → P a → Any P (a ∷ [])
Any-here P a here = (0, a, omega arith, refl, here)

any_of_two : {X : Type 0} (P : X → Type 0) (a b x : X) (k : ℕ) → k < 2 →
    slice_index_or (a ∷ b ∷ []) k x ≡ x → P x → P a ⊎ P b
any_of_two P a b x zero below at here = inl (subst P (sym at) here)
any_of_two P a b x (suc zero) below at here = inr (subst P (sym at) here)
any_of_two P a b x (suc (suc k)) below at here = absurd (omega arith)

-- an element of a list of two is one of them
pub Any-two : {X : Type 0} (P : X → Type 0) (a b : X) → Any P (a ∷ b ∷ []) → P a ⊎ P b
Any-two P a b some = any_of_two P a b some.1 some.0 some.2 some.3 some.4

pub Any-first : {X : Type 0} (P : X → Type 0) (a b : X) → P a → Any P (a ∷ b ∷ [])
Any-first P a b here = (0, a, omega arith, refl, here)

pub Any-second : {X : Type 0} (P : X → Type 0) (a b : X) → P b → Any P (a ∷ b ∷ [])
Any-second P a b here = (1, b, omega arith, refl, here)

-- ---- well sealed

-- a packet whose Message-Authenticators aren't just one of 16 octets isn't well sealed
pub not_well_sealed : (secret authenticator value : List ℕ) (p : Packet) →
    Some value ≡ first_value MESSAGE_AUTHENTICATOR p.attributes →
    (HasOneMessageAuthenticator p → ⊥) → IsWellSealed secret (authenticator ∷ []) p → ⊥
not_well_sealed secret authenticator value p first isnt sealed =
    elim sealed [
      | inl none ↦
          let nothing = first_value-none p.attributes none in
          absurd (cc)
      | inr some ↦ isnt some.0
    ]

-- a sealed packet is well sealed
pub IsWellSealed-sealed : (secret authenticator : List ℕ) (p : Packet) →
    HasAtMostOneMessageAuthenticator p →
    IsWellSealed secret (authenticator ∷ []) (with_message_authenticator secret authenticator p)
IsWellSealed-sealed secret authenticator p h =
    let value : List ℕ = message_authenticator secret authenticator p in
    let q : Packet = with_value value p in
    elim h [
      | inl none ↦ inl (count_of-with_value MESSAGE_AUTHENTICATOR value p.attributes ∙ none)
      | inr one ↦
          let stands : IsSealedOver secret q authenticator =
          first_value-with_value value p.attributes one.one
          ∙ ap Some (sym (message_authenticator-with_value secret authenticator value p)) in
          inr (
            HasOne-with_value value p (length-message_authenticator secret authenticator p) one,
            Any-here (IsSealedOver secret q) authenticator stands,
          )
    ]

-- another Authenticator in its field leaves a packet well sealed
pub IsWellSealed-with_authenticator : (secret : List ℕ) (authenticators : List (List ℕ))
    (field : List ℕ) (p : Packet) → IsWellSealed secret authenticators p →
    IsWellSealed secret authenticators (with_authenticator field p)
IsWellSealed-with_authenticator secret authenticators field p sealed =
    elim sealed [
      | inl none ↦ inl none
      | inr some ↦
          let found = some.1 in
          let stands : IsSealedOver secret (with_authenticator field p) found.1 =
          found.4 ∙ ap Some (sym (message_authenticator-with_authenticator secret found.1 field p))
          in
          inr (
            record { one = some.0.one; size = some.0.size },
            (found.0, found.1, found.2, found.3, stands),
          )
    ]

-- well sealed for one of two Authenticators
pub IsWellSealed-two : (secret a b : List ℕ) (p : Packet) →
    IsWellSealed secret (a ∷ b ∷ [])
    p ↔ (IsWellSealed secret (a ∷ []) p ⊎ IsWellSealed secret (b ∷ []) p)
IsWellSealed-two secret a b p =
    let P : List ℕ → Type 0 = IsSealedOver secret p in (
      λ sealed. elim sealed [
        | inl none ↦ inl (inl none)
        | inr some ↦ elim (Any-two P a b some.1) [
          | inl first ↦ inl (inr (some.0, Any-here P a first))
          | inr second ↦ inr (inr (some.0, Any-here P b second))
        ]
      ],
      λ either. elim either [
        | inl first ↦ elim first [
          | inl none ↦ inl none
          | inr some ↦ inr (some.0, Any-first P a b (Any-one P a some.1))
        ]
        | inr second ↦ elim second [
          | inl none ↦ inl none
          | inr some ↦ inr (some.0, Any-second P a b (Any-one P b some.1))
        ]
      ],
    )
