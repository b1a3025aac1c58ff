-- The least due, found one entry after the other: words of private functions alone.
use Rattle.std.specs.Prelude.{ℕ, ◌&&◌, Option, Some, None, if◌then◌else◌}
use Rattle.roam_pending.specs.declared.due.Due.{Due}
use Rattle.roam_pending.specs.PlainEntry.{PlainEntry}
use Rattle.roam_pending.specs.DueOrder.{is_before, is_due, is_after, due_at}

-- when one entry is due, if it is, and after the last one
abbrev pub due_alone : ℕ → Option Due → PlainEntry → Option Due
due_alone now last e = if is_due now e && is_after last (due_at e) then Some (due_at e) else None

-- when it is due, if that is after the last one
abbrev pub due_past : Option Due → PlainEntry → Option Due
due_past last e = if is_after last (due_at e) then Some (due_at e) else None

-- the one that comes before the other
abbrev pub lesser : Due → Due → Due
lesser a b = if is_before b a then b else a

-- the same, of what there is
abbrev pub earlier : Option Due → Option Due → Option Due
earlier None b = b
earlier (Some a) None = Some a
earlier (Some a) (Some b) = Some (lesser a b)
