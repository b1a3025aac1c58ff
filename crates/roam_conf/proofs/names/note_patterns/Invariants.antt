use Rattle.std.proofs.Common.{◌≡◌, ◌++◌, map, drop}
use Rattle.roam_conf.specs.Index.{owners, all_new, of_owner}
use Rattle.roam_conf.specs.Patterns.{shown_pattern}
use Rattle.roam_conf.proofs.names.note_patterns.Given as goal

-- all are new just where those that are left are new beside those that were noted
abbrev pub invariant-loop-pattern : goal.invariant-loop-pattern
invariant-loop-pattern l =
    (all_new (owners l.index) (map (of_owner l.owner) (map shown_pattern (drop l.pattern-index l.patterns)))
    ≡ all_new (owners l.fn.index) (map (of_owner l.fn.owner) (map shown_pattern l.fn.patterns)))
    × (owners l.index ++ map (of_owner l.owner) (map shown_pattern (drop l.pattern-index l.patterns))
    ≡ owners l.fn.index ++ map (of_owner l.fn.owner) (map shown_pattern l.fn.patterns))
