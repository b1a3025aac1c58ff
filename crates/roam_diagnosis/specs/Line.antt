-- The parts of a line of a diagnosis. Ours.
use Rattle.std.specs.Prelude.{ℕ, Bool, List}
use Rattle.std.specs.Int.{is_in_range}
use Rattle.std.specs.List.{list_all}

-- a printable character of ASCII: from the space to `~`
abbrev pub is_printable : ℕ → Bool
is_printable octet = is_in_range 32 126 octet

-- ## Diagnosis
-- At most ten lines, each of printable characters of ASCII alone. They stand behind a configuration's fault, each
-- printed with a line feed; what they say of the places is not defined.
-- Source: ours
-- Rules out: a control character of the file on the operator's terminal
-- Stands in: `roam_diagnosis` `Line.antt`: `is_line`, `Lines.antt`: `IsDiagnosis`, `printed`; `Lines::print`
--
-- printable characters alone
abbrev pub is_line : List ℕ → Bool
is_line line = list_all is_printable line
