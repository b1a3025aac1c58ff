-- What the forwarded packet carries of the request.
use Rattle.std.proofs.Common.{◌≡◌, ◌≢◌, ℕ, Bool, true, false, inl, inr, List, [], ◌∷◌, ◌++◌, map, refl, ap, ◌∙◌, arith}
use Rattle.std.specs.Prelude.{if◌then◌else◌, ◌==◌}
use Rattle.std.specs.List.{AllByRecursion, AllZip}
use Rattle.std.proofs.lemmas.Bool.{cases_Bool, eq-eqb, ne_eqb}
use Rattle.std.proofs.lemmas.List.{map-append}
use Rattle.roam_wire.specs.Packet.{Attribute, Packet}
use Rattle.roam_wire.specs.Attributes.{has_kind, count_of, without_kind}
use Rattle.roam_wire.specs.declared.attribute_type.TheConstants.{USER_PASSWORD, MESSAGE_AUTHENTICATOR}
use Rattle.roam_wire.specs.declared.code.TheConstants.{ACCESS_REQUEST}
use Rattle.roam_crypto.specs.Authenticators.{zero_octets}
use Rattle.roam_crypto.specs.MessageAuthenticator.{attribute_with_value, attributes_with_value, message_authenticator}
use Rattle.roam_crypto.proofs.ValueLemmas.{stands_in_place}
use Rattle.roam_crypto.proofs.SealingLemmas.{count_of-append}
use Rattle.roam_crypto.specs.Hiding.{Key, IsHiddenAnew, hidden_anew}
use Rattle.roam_crypto.proofs.HidingLemmas.{hidden_anew_hides}
use Rattle.roam_forward.specs.Forwarded.{Forwarding, ticket_state, with_password_anew, challenge_is_authenticator, added_challenge, forwarded, HasPasswordBlocks, CanBeForwarded}
use Rattle.roam_forward.specs.CarriedLaws.{IsCarried}
use Rattle.roam_forward.proofs.ForwardedLemmas.{with_ticket, count_of-with_ticket, with_ticket_and_zeros, forwarded-is}
use Rattle.roam_forward.proofs.AccessLemmas.{all_without, count_of-carried, count_of-challenge, access_unsealed, forwarded-access}

-- ---- an Access-Request

-- the keys that a password is hidden with
abbrev pub old_key : Forwarding → Packet → Key
old_key f q = record { secret = f.from_secret; first = q.authenticator }

abbrev pub new_key : Forwarding → Key
new_key f = record { secret = f.to_secret; first = f.authenticator }

-- a password that is chosen to be hidden anew hides the same plain text
chosen : (b : Bool) (from to : Key) (old : List ℕ) → b ≡ true → IsHiddenAnew from to old (hidden_anew from to old) →
    IsHiddenAnew from to old (if b then hidden_anew from to old else old)
chosen true from to old is h = h
chosen false from to old is h = absurd (cc)

not_chosen : (b : Bool) (x y : List ℕ) → b ≡ false → (if b then x else y) ≡ y
not_chosen true x y is = absurd (cc)
not_chosen false x y is = refl

carried_one : (f : Forwarding) (q : Packet) (a : Attribute) → HasPasswordBlocks a →
    IsCarried (old_key f q) (new_key f) a (with_password_anew f q a)
carried_one f q a h = record {
  kind = refl;
  password = λ is. chosen (a.kind == USER_PASSWORD) (old_key f q) (new_key f) a.value
      (eq-eqb a.kind USER_PASSWORD is)
      (hidden_anew_hides (old_key f q) (new_key f) a.value (h.whole_blocks is).whole_blocks);
  other = λ other. not_chosen (a.kind == USER_PASSWORD) (hidden_anew (old_key f q) (new_key f) a.value) a.value
      (ne_eqb a.kind USER_PASSWORD other);
}

pub carried_all : (f : Forwarding) (q : Packet) (all : List Attribute) → AllByRecursion HasPasswordBlocks all →
    AllZip (IsCarried (old_key f q) (new_key f)) all (map (with_password_anew f q) all)
carried_all f q [] h = tt
carried_all f q (a ∷ all) h = (carried_one f q a h.0, carried_all f q all h.1)

-- the Message-Authenticator's Value is the only one that is filled in
pub filled_in : (f : Forwarding) (q : Packet) →
    (forwarded f q).attributes ≡ map
    (attribute_with_value (message_authenticator f.to_secret f.authenticator (access_unsealed f q)))
    (access_unsealed f q).attributes →
    (forwarded f q).attributes ≡ (record {
      kind = MESSAGE_AUTHENTICATOR;
      value =
          message_authenticator f.to_secret f.authenticator (access_unsealed f q);
    } ∷ map (with_password_anew f q)
    (without_kind MESSAGE_AUTHENTICATOR q.attributes)) ++ added_challenge q ++ ticket_state f.ticket ∷ []
filled_in f q is =
    let seal : List ℕ = message_authenticator f.to_secret f.authenticator (access_unsealed f q) in
    let carried : List Attribute = map (with_password_anew f q) (without_kind MESSAGE_AUTHENTICATOR q.attributes) in
    let none : count_of MESSAGE_AUTHENTICATOR (with_ticket f (carried ++ added_challenge q)) ≡ 0 =
    omega (
      arith,
      count_of-with_ticket f (carried ++ added_challenge q),
      count_of-append MESSAGE_AUTHENTICATOR carried (added_challenge q),
      count_of-carried f q q.attributes,
      count_of-challenge (challenge_is_authenticator q.attributes) q.authenticator,
    ) in
    is ∙ stands_in_place seal zero_octets [] (with_ticket f (carried ++ added_challenge q)) refl none

pub access_carries : (f : Forwarding) (q : Packet) → CanBeForwarded q → q.code ≡ ACCESS_REQUEST → (seal : List ℕ)
    × (carried : List Attribute) × ((forwarded f q).attributes
    ≡ (record { kind = MESSAGE_AUTHENTICATOR; value = seal } ∷ carried) ++ added_challenge q
    ++ ticket_state f.ticket ∷ []) × AllZip (IsCarried (old_key f q) (new_key f))
    (without_kind MESSAGE_AUTHENTICATOR q.attributes) carried
access_carries f q can access =
    let own : List Attribute = without_kind MESSAGE_AUTHENTICATOR q.attributes in (
      message_authenticator f.to_secret f.authenticator (access_unsealed f q),
      map (with_password_anew f q) own,
      filled_in f q (ap (λ (p : Packet). p.attributes) (forwarded-access f q access)),
      carried_all f q own (all_without HasPasswordBlocks q.attributes (can.passwords access)),
    )

-- ---- any other request

-- a Value that is left out leaves no trace of another one before it
left_out : (value : List ℕ) (all : List Attribute) →
    attributes_with_value [] (map (attribute_with_value value) all) ≡ attributes_with_value [] all
left_out value [] = refl
left_out value (a ∷ all) =
    elim (cases_Bool (has_kind MESSAGE_AUTHENTICATOR a)) [
      | inl seal ↦ rw seal (ap (λ (l : List Attribute). record { kind = a.kind; value = [] } ∷ l) (left_out value all))
      | inr other ↦ rw other (ap (λ (l : List Attribute). a ∷ l) (left_out value all))
    ]

pub others_carried : (f : Forwarding) (q : Packet) → q.code ≢ ACCESS_REQUEST →
    attributes_with_value [] (forwarded f q).attributes ≡ attributes_with_value [] q.attributes
    ++ ticket_state f.ticket ∷ []
others_carried f q other =
    let seal : List ℕ = message_authenticator f.to_secret zero_octets (with_ticket_and_zeros f q) in
    ap (λ (p : Packet). attributes_with_value [] p.attributes) (forwarded-is f q other)
    ∙ left_out seal (with_ticket f q.attributes)
    ∙ map-append (attribute_with_value []) q.attributes (ticket_state f.ticket ∷ [])
