use Rattle.std.proofs.Common.{◌≡◌, ◌++◌, map, drop}
use Rattle.roam_conf.specs.Index.{owners, all_new, all_patterns}
use Rattle.roam_conf.specs.Parts.{shown_realm}
use Rattle.roam_conf.specs.Patterns.{patterns_of}
use Rattle.roam_conf.proofs.names.note_realms.Given as goal

-- all are new just where those of the realms that are left are new beside those that were noted
abbrev pub invariant-loop-place : goal.invariant-loop-place
invariant-loop-place l =
    (all_new (owners l.index) (all_patterns l.place (map patterns_of (map shown_realm (drop l.place l.realms))))
    ≡ all_new (owners l.fn.index) (all_patterns 0 (map patterns_of (map shown_realm l.fn.realms))))
    × (owners l.index ++ all_patterns l.place (map patterns_of (map shown_realm (drop l.place l.realms)))
    ≡ owners l.fn.index ++ all_patterns 0 (map patterns_of (map shown_realm l.fn.realms)))
