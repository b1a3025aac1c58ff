-- The question as one row of octets, by which a session table finds sessions (ours).
use Rattle.std.specs.Prelude.{ℕ, ◌/◌, ◌%◌, ◌+◌, List, [], ◌∷◌, ◌++◌, length, Option, Some, None, option_map}
use Rattle.roam_sessions.specs.Private.Masks.{asked_for, narrow, without_names}
use Rattle.roam_sessions.specs.Sessions.{Asked, Session}
use Rattle.roam_sessions.specs.declared.asked.Mask.{Mask}

-- a part: an octet 0 where it isn't there, else its size and 1, and its octets
abbrev pub part_text : Option (List ℕ) → List ℕ
part_text None = 0 ∷ []
part_text (Some octets) = (1 + length octets) ∷ octets

-- the number of the peer, the high octet first, and each part
abbrev pub row_text : Asked → List ℕ
row_text q =
    q.peer / 256 ∷ q.peer % 256 ∷ part_text q.nas.address
    ++ (part_text q.nas.identifier ++ (part_text q.nas.ipv6 ++ part_text q.id))

-- the row of a session in the groups by some of its parts; by its peer and its id; by all that it is
abbrev pub row_under : Mask → Session → Option (List ℕ)
row_under mask s = option_map row_text (narrow mask s)

abbrev pub id_row : Session → List ℕ
id_row s = row_text (without_names (asked_for s))

abbrev pub whole_row : Session → List ℕ
whole_row s = row_text (asked_for s)

-- what is hashed of a row: its octets, at once
abbrev pub row_fed : List ℕ → List (List ℕ)
row_fed octets = octets ∷ []
