-- The attributes of an Access-Request in the order in which they are forwarded (ours).
use Rattle.std.specs.Prelude.{◌≡◌, ℕ, ◌+◌, ◌⊎◌, List, [], ◌∷◌, ◌++◌, Option, Some, None}
use Rattle.roam_wire.specs.Packet.{Attribute, Packet, packet_length}
use Rattle.roam_wire.specs.Attributes.{without_kind}
use Rattle.roam_wire.specs.declared.attribute_type.TheConstants.{CHAP_CHALLENGE, MESSAGE_AUTHENTICATOR}
use Rattle.roam_crypto.specs.MessageAuthenticator.{HasNoMessageAuthenticator, empty_message_authenticator}
use Rattle.roam_crypto.specs.Sealing.{IsValuePlace}
use Rattle.roam_forward.specs.Forwarded.{ticket_state, added_challenge}

-- a CHAP-Challenge of these octets, where there are some (RFC 2865, section 5.40)
abbrev pub challenge_of : Option (List ℕ) → List Attribute
challenge_of None = []
challenge_of (Some value) = record { kind = CHAP_CHALLENGE; value = value } ∷ []

-- the octet at which a request's Message-Authenticator begins, or at which the request ends where it
-- has none
abbrev pub IsSealStart : ℕ → Packet → Type 0
IsSealStart start request =
    (HasNoMessageAuthenticator request × (start ≡ packet_length request))
    ⊎ IsValuePlace (start + 2) request.attributes

-- the attributes as they are forwarded, but with the passwords still as the requester hid them
abbrev pub arranged_attributes : Packet → ℕ → List Attribute
arranged_attributes request ticket =
    (empty_message_authenticator ∷ without_kind MESSAGE_AUTHENTICATOR request.attributes)
    ++ added_challenge request ++ ticket_state ticket ∷ []
