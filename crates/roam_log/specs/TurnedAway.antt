-- The line of a home server that answers, and whose replies are refused. Ours.
use Rattle.std.specs.Prelude.{ℕ, List, ◌++◌, Option, Some, None, codes}
use Rattle.roam_address.specs.Endpoints.{endpoint_text}
use Rattle.roam_address.specs.declared.endpoint.Endpoint.{Endpoint}
use Rattle.roam_conf.specs.declared.place.Place.TheVariants as place
use Rattle.roam_wire.specs.declared.refusal.Refusal.{Refusal}
use Rattle.roam_wire.specs.declared.refusal.Refusal.TheVariants as refusal
use Rattle.roam_log.specs.declared.origin.Origin.{Origin}
use Rattle.roam_log.specs.declared.origin.Origin.TheVariants as origin
use Rattle.roam_log.specs.declared.sender.Sender.{Sender}
use Rattle.roam_log.specs.declared.sender.Sender.TheVariants as sender
use Rattle.roam_log.specs.declared.turned_away.ReplyFault.{ReplyFault}
use Rattle.roam_log.specs.declared.turned_away.ReplyFault.TheVariants as fault
use Rattle.roam_log.specs.declared.turned_away.TurnedAway.{TurnedAway}

-- replies of a realm's server that are signed as they ought to be, and refused all the same
abbrev pub turned_away : Refusal → Origin → Option TurnedAway
turned_away refusal.BadReplyMessageAuthenticator (origin.Unsealed (place.Out r nth) from) =
    Some (record { realm = r; out = nth; from = from; fault = fault.NoSeal })
turned_away refusal.BadReplyMessageAuthenticator (origin.Datagram (place.Out r nth) from) =
    Some (record { realm = r; out = nth; from = from; fault = fault.WrongSeal })
turned_away refusal.ReplyTooLong (origin.Datagram (place.Out r nth) from) =
    Some (record { realm = r; out = nth; from = from; fault = fault.TooLong })
turned_away _ _ = None

-- where they came from
abbrev pub origin_in : TurnedAway → Origin
origin_in replies = origin.Datagram (place.Out replies.realm replies.out) replies.from

-- who sent them
abbrev pub who_text : Sender → List ℕ
who_text sender.HomeServer = codes "home server"
who_text sender.Unknown = codes "home server"
who_text (sender.Peer name) = codes "access server"

-- which refusal it is
abbrev pub fault_text : ReplyFault → List ℕ
fault_text fault.NoSeal = codes "17 BadReplyMessageAuthenticator"
fault_text fault.WrongSeal = codes "17 BadReplyMessageAuthenticator"
fault_text fault.TooLong = codes "18 ReplyTooLong"

-- what to do
abbrev pub advice_text : ReplyFault → List ℕ
advice_text fault.NoSeal = codes "its replies have no Message-Authenticator: update it, or set require_seal = false"
advice_text fault.WrongSeal = codes "the Message-Authenticator of its replies is wrong: update it, or the proxy between"
advice_text fault.TooLong = codes "its replies are too long: have it send less"

-- which home server of which realm
abbrev pub server_text : Sender → Endpoint → List ℕ → List ℕ
server_text sender from realm = who_text sender ++ codes " " ++ endpoint_text from ++ codes " of " ++ realm

-- ## Line of a home server that is refused
-- Which home server answers, of which realm, by what its replies are refused, and what to do.
-- Source: ours
-- Rules out: a server that answers said to be silent
-- Stands in: `roam_log` `TurnedAway.antt`: `turned_away`, `turned_away_text`; what the `Display` of
-- `TurnedAwayText`
-- writes
--
-- the line
abbrev pub turned_away_text : Sender → Endpoint → List ℕ → ReplyFault → List ℕ
turned_away_text sender from realm fault =
    server_text sender from realm ++ codes " answers, and its replies are dropped (" ++ fault_text fault ++
    codes "): " ++ advice_text fault
