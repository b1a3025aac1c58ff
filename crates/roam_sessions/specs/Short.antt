-- Octets that an attribute has room for, as contracts see them: where they lie, and without memory.
use Rattle.std.specs.Prelude.{ℕ, List, take}
use Rattle.roam_sessions.specs.declared.short.Short.{Short}
use Rattle.roam_sessions.specs.declared.short.ShortArray.{ShortArray}

abbrev pub shown_short : Short → List ℕ
shown_short short = short.octets.now

abbrev pub short_octets : ShortArray → List ℕ
short_octets short = take short.len short.octets
