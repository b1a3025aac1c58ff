-- The causes why the proxy rejects an Access-Request by itself. Ours.
use Rattle.std.specs.Borrow.{Bor}
use Rattle.std.specs.Option.{option_or}
use Rattle.std.specs.Prelude.{ℕ, Bool, List, Option, Some, None, option_map, if◌then◌else◌}
use Rattle.roam_wire.specs.Attributes.{first_value}
use Rattle.roam_wire.specs.Packet.{Packet}
use Rattle.roam_wire.specs.declared.attribute_type.TheConstants.{USER_NAME}
use Rattle.roam_wire.specs.declared.code.TheConstants.{ACCESS_REJECT, ACCOUNTING_RESPONSE}
use Rattle.roam_conf.specs.Config.{ConfigView}
use Rattle.roam_admission.specs.LocalReject.{has_too_many_hops, takes_of}
use Rattle.roam_admission.specs.UserName.{realm_of, realm_part}
use Rattle.roam_admission.specs.declared.job.Side.{Side}
use Rattle.roam_admission.specs.declared.local_answer.LocalAnswer.{LocalAnswer}
use Rattle.roam_admission.specs.declared.local_answer.LocalAnswer.TheVariants as local
use Rattle.roam_admission.specs.declared.local_answer.RejectCause.{RejectCause}
use Rattle.roam_admission.specs.declared.local_answer.RejectCause.TheVariants as cause

-- the octets of a value, where there is one
abbrev pub shown_octets : Bor (List ℕ) → List ℕ
shown_octets octets = octets.now

abbrev pub shown_value : Option (Bor (List ℕ)) → Option (List ℕ)
shown_value value = option_map shown_octets value

-- what is wrong with what follows the `@`, where it means this realm
abbrev pub cause_of_part : Option (List ℕ) → Option ℕ → Option RejectCause
cause_of_part None realm = Some cause.NoRealmPart
cause_of_part (Some part) None = Some cause.UnknownRealm
cause_of_part (Some part) (Some realm) = None

-- what is wrong with a User-Name
abbrev pub cause_of_name : Option (List ℕ) → Option ℕ → Option RejectCause
cause_of_name None realm = Some cause.NoUserName
cause_of_name (Some name) realm = cause_of_part (realm_part name) realm

-- the realm that is named takes no requests of the sender
abbrev pub cause_of_asking : ConfigView → Side → Option ℕ → Option RejectCause
cause_of_asking config s None = None
cause_of_asking config s (Some realm) = if takes_of config realm s then None else Some cause.NotForPeer

abbrev pub cause_or : Option RejectCause → Bool → RejectCause
cause_or (Some why) has_hops = why
cause_or None has_hops = if has_hops then cause.TooManyHops else cause.Passwords

-- ## Cause of a local reject
-- The first that holds: no User-Name, no `@` in it, no realm that it means, a realm that takes no
-- requests of the peer, too many hops, else its passwords. It goes with the reject, so that a line has it from there.
-- Source: ours
-- Rules out: a reject that is told with another cause than it has
-- Stands in: `roam_admission` `RejectCauses.antt`: `reject_cause`, `Admission.antt`: `rejected_for`; `prepare`
--
-- the first cause that there is: its name, who asks, its hops, else its passwords
abbrev pub reject_cause : ConfigView → Side → Packet → RejectCause
reject_cause config s request =
    cause_or
    (option_or (cause_of_name (first_value USER_NAME request.attributes) (realm_of config request.attributes))
    (cause_of_asking config s (realm_of config request.attributes)))
    (has_too_many_hops config.max_hops request)

-- the code of the packet that answers
abbrev pub code_of : LocalAnswer → ℕ
code_of (local.Rejected why) = ACCESS_REJECT
code_of local.Response = ACCOUNTING_RESPONSE
code_of (local.Status code) = code
