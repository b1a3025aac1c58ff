-- Each test is true just where its fact holds.
use Rattle.std.proofs.Common.{◌≡◌, ℕ, Bool, true, false, inl, inr, List, Option, Some, None, refl, sym, ap, subst, ◌∙◌}
use Rattle.std.specs.Prelude.{Any, ◌||◌, ◌&&◌, ◌==◌, length, IsSomeAnd, ◌⊎◌}
use Rattle.std.specs.Option.{option_map_or}
use Rattle.std.specs.Str.{bytes_eq}
use Rattle.std.proofs.lemmas.Slice.Eq.{bytes_eq-Decides}
use Rattle.std.proofs.lemmas.List.Folds.{Any-from_list_any, list_any-from_Any}
use Rattle.std.proofs.lemmas.Bool.{eqb-true, eq-eqb}
use Rattle.roam_wire.specs.Packet.{Packet}
use Rattle.roam_wire.specs.Attributes.{count_of, first_value}
use Rattle.roam_wire.specs.declared.attribute_type.TheConstants.{MESSAGE_AUTHENTICATOR}
use Rattle.roam_crypto.specs.Authenticators.{response_authenticator, request_authenticator}
use Rattle.roam_crypto.specs.MessageAuthenticator.{message_authenticator, IsWellSealed}
use Rattle.roam_crypto.specs.Deciding.{is_seal_over_one, is_well_sealed}
use Rattle.roam_crypto.specs.DecidingLaws.{SignedReplyIsDecided, SignedRequestIsDecided, WellSealedIsDecided}
use Rattle.roam_crypto.proofs.DigestLemmas.{length-message_authenticator}

pub signed_reply_decided : SignedReplyIsDecided
signed_reply_decided secret request_authenticator p =
    bytes_eq-Decides p.authenticator (response_authenticator secret request_authenticator p)

pub signed_request_decided : SignedRequestIsDecided
signed_request_decided secret p = bytes_eq-Decides p.authenticator (request_authenticator secret p)

-- what a Value that is there says
from_value : (test : List ℕ → Bool) (o : Option (List ℕ)) → option_map_or test o false ≡ true → (value : List ℕ)
    × (o ≡ Some value) × (test value ≡ true)
from_value test None h = absurd (cc)
from_value test (Some value) h = (value, refl, h)

-- a Value that is the packet's Message-Authenticator over one of some Authenticators
over_one : (secret : List ℕ) (authenticators : List (List ℕ)) (p : Packet) (value : List ℕ) →
    is_seal_over_one secret authenticators p value ≡ true →
    first_value MESSAGE_AUTHENTICATOR p.attributes ≡ Some value → (length value ≡ 16)
    × Any (λ authenticator. first_value MESSAGE_AUTHENTICATOR p.attributes
    ≡ Some (message_authenticator secret authenticator p)) authenticators
over_one secret authenticators p value is first =
    let found = Any-from_list_any (λ authenticator. bytes_eq value (message_authenticator secret authenticator p))
    authenticators is in
    let same : value ≡ message_authenticator secret found.1 p =
    (bytes_eq-Decides value (message_authenticator secret found.1 p)).0 found.4 in (
      ap length same ∙ length-message_authenticator secret found.1 p,
      (found.0, found.1, found.2, found.3, first ∙ ap Some same),
    )

-- where one of two tests is true
either : (a b : Bool) → (a || b) ≡ true → (a ≡ true) ⊎ (b ≡ true)
either true b h = inl refl
either false b h = inr h

-- where both are
both : (a b : Bool) → (a && b) ≡ true → (a ≡ true) × (b ≡ true)
both true b h = (refl, h)
both false b h = absurd (cc)

or_second : (a b : Bool) → b ≡ true → (a || b) ≡ true
or_second true b h = refl
or_second false b h = h

or_first : (a b : Bool) → a ≡ true → (a || b) ≡ true
or_first a b h = rw h refl

-- the test shows the fact
test_shows : (secret : List ℕ) (authenticators : List (List ℕ)) (p : Packet) →
    is_well_sealed secret authenticators p ≡ true → IsWellSealed secret authenticators p
test_shows secret authenticators p h =
    let count = count_of MESSAGE_AUTHENTICATOR p.attributes in
    elim (either (count == 0) _ h) [
      | inl none ↦ inl (eqb-true count 0 none)
      | inr rest ↦
          let parts = both (count == 1) _ rest in
          let value = from_value (is_seal_over_one secret authenticators p)
          (first_value MESSAGE_AUTHENTICATOR p.attributes) parts.1 in
          let over = over_one secret authenticators p value.0 value.2 value.1 in
          inr (
            record {
              one = eqb-true count 1 parts.0;
              size =
                  subst (λ (o : Option (List ℕ)). IsSomeAnd o (λ v. length v ≡ 16)) (sym value.1) over.0;
            },
            over.1,
          )
    ]

-- a Value that is there passes a test that holds of it
value_passes : (test : List ℕ → Bool) (o : Option (List ℕ)) (value : List ℕ) → o ≡ Some value → test value ≡ true →
    option_map_or test o false ≡ true
value_passes test o value is passes = rw is passes

-- the fact shows the test
fact_shows : (secret : List ℕ) (authenticators : List (List ℕ)) (p : Packet) → IsWellSealed secret authenticators p →
    is_well_sealed secret authenticators p ≡ true
fact_shows secret authenticators p h =
    let count = count_of MESSAGE_AUTHENTICATOR p.attributes in
    elim h [
      | inl none ↦ or_first (count == 0) _ (eq-eqb count 0 none)
      | inr one ↦
          let some = one.1 in
          let seal = message_authenticator secret some.1 p in
          let here : bytes_eq seal (message_authenticator secret some.1 p) ≡ true =
          (bytes_eq-Decides seal seal).1 refl in
          let listed : is_seal_over_one secret authenticators p seal ≡ true =
          list_any-from_Any (λ authenticator. bytes_eq seal (message_authenticator secret authenticator p))
          authenticators (some.0, some.1, some.2, some.3, here) in
          let passes = value_passes (is_seal_over_one secret authenticators p)
          (first_value MESSAGE_AUTHENTICATOR p.attributes) seal some.4 listed in
          or_second (count == 0) _ (rw (eq-eqb count 1 one.0.one) passes)
    ]

pub well_sealed_decided : WellSealedIsDecided
well_sealed_decided secret authenticators p = (test_shows secret authenticators p, fact_shows secret authenticators p)
