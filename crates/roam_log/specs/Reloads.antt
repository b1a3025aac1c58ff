-- The lines of a reload. Ours.
use Rattle.std.specs.Prelude.{ℕ, List, ◌++◌, codes}
use Rattle.roam_log.specs.declared.reload_text.ReloadEnd.{ReloadEnd}
use Rattle.roam_log.specs.declared.reload_text.ReloadEnd.TheVariants as end

-- ## Line of a reload
-- What is said to who asked for it, a line each, with how it went before it.
-- Source: ours
-- Stands in: `roam_log` `Reloads.antt`: `reload_text`; what the `Display` of `ReloadText` writes
--
-- a line of what is said to who asked for it, with how it went before it
abbrev pub reload_text : ReloadEnd → List ℕ → List ℕ
reload_text end.Done line = codes "reload: " ++ line
reload_text end.Declined line = codes "reload declined: " ++ line
