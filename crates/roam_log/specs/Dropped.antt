-- The line of what a reload or the server's end drops of a realm. Ours.
use Rattle.std.specs.Prelude.{ℕ, ◌==◌, List, [], ◌++◌, if◌then◌else◌, codes}
use Rattle.std.specs.Fmt.{decimal}
use Rattle.roam_log.specs.declared.dropped_text.DropCause.{DropCause}
use Rattle.roam_log.specs.declared.dropped_text.DropCause.TheVariants as cause

-- by what
abbrev pub drop_word : DropCause → List ℕ
drop_word cause.Reload = codes "reload"
drop_word cause.End = codes "end"

-- how many replies were held, where some were
abbrev pub held_text : ℕ → List ℕ
held_text held = if held == 0 then [] else (codes ", " ++ decimal held ++ codes " held replies")

-- ## Line of what is dropped
-- Of a realm how many requests waited, how many sessions were open and how many replies were held, and by what they are
-- dropped.
-- Source: ours
-- Stands in: `roam_log` `Dropped.antt`: `dropped_text`; what the `Display` of `DroppedText` writes
--
-- how many requests waited, how many sessions were open, and how many replies were held
abbrev pub dropped_text : DropCause → List ℕ → ℕ → ℕ → ℕ → List ℕ
dropped_text cause realm waiting sessions held =
    drop_word cause ++ codes ": realm " ++ realm ++ codes ": dropped: " ++ decimal waiting ++
    codes " waiting requests, " ++ decimal sessions ++ codes " sessions" ++ held_text held
