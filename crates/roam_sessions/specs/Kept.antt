-- Sessions, and questions to a session table, as they are seen: where their octets lie, and as the ledger keeps them.
use Rattle.std.specs.Prelude.{option_map}
use Rattle.roam_sessions.specs.Sessions.{Asked, Nas, Session}
use Rattle.roam_sessions.specs.Private.Packed.{session_in}
use Rattle.roam_sessions.specs.Short.{shown_short}
use Rattle.roam_sessions.specs.declared.asked.NasRef.{NasRef}
use Rattle.roam_sessions.specs.declared.asked.SessionRef.{SessionRef}
use Rattle.roam_sessions.specs.declared.asked.AskedRef.{AskedRef}
use Rattle.roam_sessions.specs.declared.packed_session.OpenSession.{OpenSession}

-- the names of an access server
abbrev pub shown_nas : NasRef → Nas
shown_nas nas = record {
  address = option_map shown_short nas.address;
  identifier = option_map shown_short nas.identifier;
  ipv6 = option_map shown_short nas.ipv6;
}

-- a session
abbrev pub shown_session : SessionRef → Session
shown_session s = record { peer = s.peer; nas = shown_nas s.nas; id = shown_short s.id }

-- what is asked
abbrev pub shown_asked : AskedRef → Asked
shown_asked q = record { peer = q.peer; nas = shown_nas q.nas; id = option_map shown_short q.id }

-- a session that is kept: its octets are those of its names, of those that are there, and then those of its id
abbrev pub kept_session : {A : Type 0} → OpenSession A → Session
kept_session s = session_in s.peer s.address s.identifier s.ipv6 s.octets
