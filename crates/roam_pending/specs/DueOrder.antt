-- The entries that are due, in order of deadline and ticket (ours).
use Rattle.std.specs.Prelude.{ℕ, ◌==◌, ◌&&◌, ◌||◌, Bool, true, List, [], ◌∷◌, Option, Some, None, if◌then◌else◌, map, nat_lt, nat_le}
use Rattle.std.specs.List.{filter, find}
use Rattle.roam_pending.specs.declared.due.Due.{Due}
use Rattle.roam_pending.specs.PlainEntry.{PlainEntry, deadline_of}

-- the lesser deadline first, and at one deadline the lesser ticket
abbrev pub is_before : Due → Due → Bool
is_before a b = nat_lt a.deadline b.deadline || (a.deadline == b.deadline && nat_lt a.ticket b.ticket)

-- one due more, in its place
abbrev pub into : Due → List Due → List Due
into d [] = d ∷ []
into d (x ∷ xs) = if is_before x d then x ∷ into d xs else d ∷ x ∷ xs

-- dues in order
abbrev pub in_order : List Due → List Due
in_order [] = []
in_order (d ∷ ds) = into d (in_order ds)

-- when an entry is due
abbrev pub due_at : PlainEntry → Due
due_at e = record { deadline = deadline_of e.standing; ticket = e.ticket }

-- its deadline is reached
abbrev pub is_due : ℕ → PlainEntry → Bool
is_due now e = nat_le (deadline_of e.standing) now

-- what is due at a moment: the entries whose deadline is at most that moment, in order
abbrev pub due_list : ℕ → List PlainEntry → List Due
due_list now es = in_order (map due_at (filter (is_due now) es))

-- after the last one, if there was one
abbrev pub is_after : Option Due → Due → Bool
is_after None d = true
is_after (Some last) d = is_before last d

-- the first that is due, or the next one after the last
abbrev pub due_after : ℕ → Option Due → List PlainEntry → Option Due
due_after now last es = find (is_after last) (due_list now es)
