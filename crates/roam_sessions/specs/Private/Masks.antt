-- A session by some of its parts (ours).
use Rattle.std.specs.Prelude.{ℕ, ◌==◌, ◌&&◌, ◌||◌, Bool, Option, Some, None, is_some, is_none, if◌then◌else◌}
use Rattle.roam_sessions.specs.Sessions.{Asked, Nas, Session, agrees_in, no_nas}
use Rattle.roam_sessions.specs.declared.asked.Mask.{Mask}

-- what is asked for a session by all that it is
abbrev pub asked_for : Session → Asked
asked_for s = record { peer = s.peer; nas = s.nas; id = Some s.id }

-- a session lacks a part that is asked for
abbrev pub lacks : Mask → Session → Bool
lacks mask s =
    (mask.address && is_none s.nas.address) || (mask.identifier && is_none s.nas.identifier)
    || (mask.ipv6 && is_none s.nas.ipv6)

-- what is asked for a session by its peer and some of its parts
abbrev pub asked_by : Mask → Session → Asked
asked_by mask s = record {
  peer = s.peer;
  nas = record {
    address = if mask.address then s.nas.address else None;
    identifier = if mask.identifier then s.nas.identifier else None;
    ipv6 = if mask.ipv6 then s.nas.ipv6 else None;
  };
  id = if mask.id then Some s.id else None;
}

-- the same, where the session has those parts
abbrev pub narrow : Mask → Session → Option Asked
narrow mask s = if lacks mask s then None else Some (asked_by mask s)

-- the parts that are asked for
abbrev pub mask_of : Asked → Mask
mask_of q = record {
  address = is_some q.nas.address;
  identifier = is_some q.nas.identifier;
  ipv6 = is_some q.nas.ipv6;
  id = is_some q.id;
}

-- what is asked, but for the names of the access server
abbrev pub without_names : Asked → Asked
without_names q = record { peer = q.peer; nas = no_nas; id = q.id }

-- an access server of a peer has the names that are asked for
abbrev pub has_names : Asked → ℕ → Nas → Bool
has_names q peer nas =
    q.peer == peer && agrees_in q.nas.address nas.address && agrees_in q.nas.identifier nas.identifier
    && agrees_in q.nas.ipv6 nas.ipv6
