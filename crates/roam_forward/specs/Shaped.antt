-- A request as a peer and a realm have it forwarded: without what doesn't pass, and with what is added (ours).
use Rattle.std.specs.Prelude.{◌≡◌, ◌==◌, ◌&&◌, ◌||◌, ℕ, Bool, false, List, [], ◌∷◌, ◌++◌, length, ◌≤◌, Option, Some, None, option_map, if◌then◌else◌}
use Rattle.std.specs.List.{AllByRecursion}
use Rattle.std.specs.Option.{ForSome}
use Rattle.roam_wire.specs.Packet.{Attribute, Packet}
use Rattle.roam_wire.specs.Attributes.{count_of}
use Rattle.roam_wire.specs.declared.attribute_type.TheConstants.{CHARGEABLE_USER_IDENTITY, OPERATOR_NAME}
use Rattle.roam_wire.specs.declared.code.TheConstants.{ACCESS_REQUEST, ACCOUNTING_REQUEST}
use Rattle.roam_wire.specs.declared.packet_size.TheConstants.{MAX_PACKET_LENGTH}
use Rattle.roam_crypto.specs.MessageAuthenticator.{HasAtMostOneMessageAuthenticator}
use Rattle.roam_wire.specs.declared.removed_attribute.RemovedAttribute.{RemovedAttribute}
use Rattle.roam_forward.specs.Without.{without}
use Rattle.roam_forward.specs.Removal.{removed_by}
use Rattle.roam_forward.specs.Forwarded.{added_challenge, forwarded_length, HasPasswordBlocks}
use Rattle.roam_forward.specs.declared.shaping.Shaping.{Shaping as Terms}

-- what a peer and a realm have done to a request: which attributes don't pass, the value of the peer's Operator-Name if
-- it has one, and whether a Chargeable-User-Identity is asked for (ours)
pub record Shaping : Type 0 where
  pub removed : List RemovedAttribute
  pub operator_name : Option (List ℕ)
  pub ask_cui : Bool

-- what a `Shaping` of the code shows
abbrev pub shown_shaping : Terms → Shaping
shown_shaping s = record {
  removed = removed_by s.removal;
  operator_name = option_map (λ name. name.now) s.operator_name;
  ask_cui = s.ask_cui;
}

-- an Operator-Name fits in one attribute (RFC 2865, section 5)
abbrev pub HasShortName : Shaping → Type 0
HasShortName s = ForSome s.operator_name (λ name. length name ≤ 253)

-- nothing
abbrev pub no_shaping : Shaping
no_shaping = record { removed = []; operator_name = None; ask_cui = false }

-- an Operator-Name of this value: the octet of its namespace, and the name behind it (RFC 5580, section 4.1)
abbrev pub operator_name_of : List ℕ → Attribute
operator_name_of value = record { kind = OPERATOR_NAME; value = value }

-- it is added where the peer has one and the request has none (ours)
abbrev pub added_operator_name : Option (List ℕ) → List Attribute → List Attribute
added_operator_name None attributes = []
added_operator_name (Some value) attributes =
    if count_of OPERATOR_NAME attributes == 0 then operator_name_of value ∷ [] else []

-- a Chargeable-User-Identity of one octet 0 asks for one (RFC 4372, section 2.1); it is added where it is asked for
-- and the request has none
abbrev pub added_cui : Bool → List Attribute → List Attribute
added_cui asked attributes =
    if asked && count_of CHARGEABLE_USER_IDENTITY attributes == 0
    then record { kind = CHARGEABLE_USER_IDENTITY; value = 0 ∷ [] } ∷ []
    else []

-- to which requests an Operator-Name is added: Access- and Accounting-Requests (RFC 5580, section 4.1)
abbrev pub takes_operator_name : ℕ → Bool
takes_operator_name code = code == ACCESS_REQUEST || code == ACCOUNTING_REQUEST

-- what is added for a peer: an Operator-Name, and to an Access-Request a Chargeable-User-Identity
abbrev pub added_for_peer : Shaping → ℕ → List Attribute → List Attribute
added_for_peer s code attributes =
    (if takes_operator_name code then added_operator_name s.operator_name attributes else [])
    ++ (if code == ACCESS_REQUEST then added_cui s.ask_cui attributes else [])

-- a request without what doesn't pass
abbrev pub passing : List RemovedAttribute → Packet → Packet
passing removed request = record request { attributes = without removed request.attributes }

-- the challenge that an Access-Request's Authenticator is, so that what is added for a peer stands behind it
abbrev pub challenge_first : Packet → List Attribute
challenge_first request = if request.code == ACCESS_REQUEST then added_challenge request else []

-- all that is added
abbrev pub all_added : Shaping → Packet → List Attribute
all_added s request =
    challenge_first (passing s.removed request)
    ++ added_for_peer s request.code (without s.removed request.attributes)

-- ## Shaped request
-- A request as a peer and a realm have it forwarded: its attributes that pass, in their order; in an Access-Request
-- the CHAP-Challenge that is added anyway; then, in an Access- or Accounting-Request, the peer's Operator-Name where
-- it has one and the request has none, and in an Access-Request a Chargeable-User-Identity of one octet 0 where the
-- peer has it asked for and the request has none. What is forwarded for the request is what is forwarded for this.
-- Source: RFC 5580 section 4.1, RFC 4372 section 2.1; which attributes pass is ours
-- Rules out: a second Operator-Name; the namespace REALM for a name of another one; what is added in front of what
-- passes, or behind the ticket
-- Stands in: `roam_forward` `Shaped.antt`: `shaped`, `added_for_peer`; `forwarded_shaped_len`,
-- `forward`, the law `shaped_carries`
--
unfoldable pub shaped : Shaping → Packet → Packet
shaped s request =
    record request { attributes = without s.removed request.attributes ++ all_added s request }

-- ## What can be shaped
-- A request that can be forwarded as it is shaped: it has at most one Message-Authenticator, of 16 octets, in an
-- Access-Request passwords of whole blocks of 16 octets, and what is forwarded for it has at most 4096 octets, with
-- what
-- is added and without what doesn't pass.
-- Source: RFC 3579 section 3.2, RFC 2865 section 5.2; the limit ours
-- Rules out: a request refused for the size of what doesn't pass; a packet past its limit by what is added
-- Stands in: `roam_forward` `Shaped.antt`: `CanBeShaped`; `can_be_shaped`, `forward`
--
pub record CanBeShaped (s : Shaping) (request : Packet) : Type 0 where
  pub message_authenticator : HasAtMostOneMessageAuthenticator request
  pub passwords : request.code ≡ ACCESS_REQUEST → AllByRecursion HasPasswordBlocks request.attributes
  pub size : forwarded_length (shaped s request) ≤ MAX_PACKET_LENGTH
