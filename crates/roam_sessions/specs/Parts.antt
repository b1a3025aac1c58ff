-- Sessions by the octets of their parts (ours).
use Rattle.std.specs.Prelude.{ℕ, ◌≤◌, List, Option, length, option_map}
use Rattle.std.specs.Option.{ForSome}
use Rattle.roam_sessions.specs.Sessions.{Session}
use Rattle.roam_sessions.specs.ShownSessions.{shown_octets}
use Rattle.roam_sessions.specs.declared.parts.SessionParts.{SessionParts}

-- a session whose parts are looked at where they lie
abbrev pub shown_parts : SessionParts → Session
shown_parts s = record {
  peer = s.peer;
  nas = record {
    address = option_map shown_octets s.address;
    identifier = option_map shown_octets s.identifier;
    ipv6 = option_map shown_octets s.ipv6;
  };
  id = s.id.now;
}

-- an attribute has room for these octets, if there are any (RFC 2865, section 5)
abbrev pub IsShortIfAny : Option (List ℕ) → Type 0
IsShortIfAny octets = ForSome octets (λ some. length some ≤ 253)

-- an attribute has room for each part
pub record AreShort (s : Session) : Type 0 where
  pub address : IsShortIfAny s.nas.address
  pub identifier : IsShortIfAny s.nas.identifier
  pub ipv6 : IsShortIfAny s.nas.ipv6
  pub id : length s.id ≤ 253
