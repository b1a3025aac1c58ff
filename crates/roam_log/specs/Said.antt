-- The parts of a line of an exchange that come of its request, and of its Access-Accept. Ours.
use Rattle.std.specs.Prelude.{◌≡◌, ℕ, ◌==◌, ◌||◌, Bool, List, [], ◌∷◌, Option, Some, None, Result, Ok, Err, option_and_then, option_map, take, if◌then◌else◌}
use Rattle.std.specs.Int.{w32, from_be_bytes}
use Rattle.roam_log.specs.Exchanges.{asked_of}
use Rattle.roam_log.specs.Values.{octets_if}
use Rattle.roam_log.specs.declared.details.Details.{Details}
use Rattle.roam_log.specs.declared.exchange.Exchange.{Exchange}
use Rattle.roam_log.specs.declared.exchange.RequestWord.{RequestWord}
use Rattle.roam_log.specs.declared.exchange.RequestWord.TheVariants as asked
use Rattle.roam_log.specs.declared.exchange.Value.{Value}
use Rattle.roam_wire.specs.Attributes.{first_value}
use Rattle.roam_wire.specs.Packet.{Packet}
use Rattle.roam_wire.specs.declared.attribute_type.TheConstants.{ACCT_SESSION_ID, ACCT_STATUS_TYPE, ERROR_CAUSE, NAS_IDENTIFIER, USER_NAME}
use Rattle.roam_wire.specs.declared.refusal.Refusal.{Refusal}

-- the value of the first attribute of a type, which has 253 octets at most (RFC 2865, section 5)
abbrev pub told_value : ℕ → Packet → Option (List ℕ)
told_value kind packet = option_map (λ (value : List ℕ). take 253 value) (first_value kind packet.attributes)

-- the number that four octets are, the high one first; other octets are none
abbrev pub number_in : List ℕ → Option ℕ
number_in (a ∷ b ∷ c ∷ d ∷ []) = Some (from_be_bytes w32 (a ∷ b ∷ c ∷ d ∷ []))
number_in _ = None

-- the same of a packet that may not be read: nothing then
abbrev pub told_in : ℕ → Result Packet Refusal → Option (List ℕ)
told_in kind (Ok packet) = told_value kind packet
told_in kind (Err fault) = None

abbrev pub asked_in : Result Packet Refusal → RequestWord
asked_in (Ok request) = asked_of request.code
asked_in (Err fault) = asked.Other

-- the number of the first Acct-Status-Type
abbrev pub status_in : Result Packet Refusal → Option ℕ
status_in (Ok request) = option_and_then number_in (first_value ACCT_STATUS_TYPE request.attributes)
status_in (Err fault) = None

-- Operator-Name (RFC 5580, section 4.1), NAS-Identifier, Called-Station-Id (RFC 2865, sections 5.32, 5.30),
-- Acct-Status-Type, Acct-Session-Id (RFC 2866, sections 5.1, 5.5)
pub record AreDetailsIn (request : Result Packet Refusal) (details : Details) : Type 0 where
  pub operator : octets_if details.operator ≡ told_in 126 request
  pub nas_id : octets_if details.nas_id ≡ told_in NAS_IDENTIFIER request
  pub called : octets_if details.called ≡ told_in 30 request
  pub status : details.status ≡ status_in request
  pub session : octets_if details.session ≡ told_in ACCT_SESSION_ID request
  pub charged : octets_if details.charged ≡ None

-- User-Name, Calling-Station-Id (RFC 2865, sections 5.1, 5.31) and the details
pub record AreTold (request : Result Packet Refusal) (word : RequestWord) (user station : Value)
    (details : Details) : Type 0 where
  pub asked : word ≡ asked_in request
  pub user_name : octets_if user ≡ told_in USER_NAME request
  pub calling : octets_if station ≡ told_in 31 request
  pub further : AreDetailsIn request details

-- ## What a line has of a request
-- By its code what was asked; of its attributes the first User-Name, Calling-Station-Id, Operator-Name, NAS-Identifier,
-- Called-Station-Id, Acct-Status-Type and Acct-Session-Id; of an Access-Accept the first Chargeable-User-Identity, of a
-- NAK the first Error-Cause.
-- Source: RFC 2865 section 5, RFC 2866 section 5, RFC 5580 section 4.1, RFC 4372 section 2.2, RFC 5176 section 3.5,
-- ours
-- Rules out: one attribute told as another; who is charged by any other reply; a cause that no NAK gave
-- Stands in: `roam_log` `Said.antt`: `AreTold`, `IsSaidBy`, `charged_by`, `error_cause_in`; `nak_of`,
-- `local_reject_of`, `tell_of`
--
-- each as it stands in a request; nothing of one that isn't read
abbrev pub IsSaidBy : Result Packet Refusal → Exchange → Type 0
IsSaidBy request exchange = AreTold request exchange.asked exchange.user exchange.station exchange.details

-- who is charged (RFC 4372, section 2.2)
abbrev pub charged_by : Result Packet Refusal → Option (List ℕ)
charged_by (Ok reply) = if reply.code == 2 then told_value 89 reply else None
charged_by (Err fault) = None

-- a Disconnect-NAK or a CoA-NAK
abbrev pub is_nak : ℕ → Bool
is_nak code = (code == 42) || (code == 45)

-- why a NAK was given (RFC 5176, section 3.5)
abbrev pub error_cause_in : Result Packet Refusal → Option ℕ
error_cause_in (Ok reply) =
    if is_nak reply.code then option_and_then number_in (first_value ERROR_CAUSE reply.attributes) else None
error_cause_in (Err fault) = None
