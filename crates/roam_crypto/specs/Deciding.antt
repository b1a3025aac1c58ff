-- The facts of this crate as tests, for definitions that choose by them. The laws of DecidingLaws say
-- that each test is true just where its fact holds.
use Rattle.std.specs.Prelude.{ℕ, ◌==◌, ◌&&◌, ◌||◌, Bool, false, List}
use Rattle.std.specs.List.{list_any}
use Rattle.std.specs.Option.{option_map_or}
use Rattle.std.specs.Str.{bytes_eq}
use Rattle.roam_wire.specs.Packet.{Packet}
use Rattle.roam_wire.specs.Attributes.{count_of, first_value}
use Rattle.roam_wire.specs.declared.attribute_type.TheConstants.{MESSAGE_AUTHENTICATOR}
use Rattle.roam_crypto.specs.Authenticators.{response_authenticator, request_authenticator}
use Rattle.roam_crypto.specs.MessageAuthenticator.{message_authenticator}

-- whether a reply is signed (RFC 2865, section 3)
abbrev pub is_signed_reply : List ℕ → List ℕ → Packet → Bool
is_signed_reply secret request_authenticator p =
    bytes_eq p.authenticator (response_authenticator secret request_authenticator p)

-- whether an accounting or reverse request is signed (RFC 2866, section 3; RFC 5176, section 2.3)
abbrev pub is_signed_request : List ℕ → Packet → Bool
is_signed_request secret p = bytes_eq p.authenticator (request_authenticator secret p)

-- whether a Value is the packet's Message-Authenticator over one of these Authenticators
abbrev pub is_seal_over_one : List ℕ → List (List ℕ) → Packet → List ℕ → Bool
is_seal_over_one secret authenticators p value =
    list_any (λ authenticator. bytes_eq value (message_authenticator secret authenticator p))
    authenticators

-- whether a packet is well sealed for a secret and some Authenticators (ours, over RFC 3579, section
-- 3.2)
abbrev pub is_well_sealed : List ℕ → List (List ℕ) → Packet → Bool
is_well_sealed secret authenticators p =
    count_of MESSAGE_AUTHENTICATOR p.attributes == 0
    || (count_of MESSAGE_AUTHENTICATOR p.attributes == 1
    && option_map_or (is_seal_over_one secret authenticators p)
    (first_value MESSAGE_AUTHENTICATOR p.attributes) false)
