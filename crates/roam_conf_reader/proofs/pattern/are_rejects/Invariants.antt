use Rattle.std.proofs.Common.{◌≡◌, map, drop}
use Rattle.std.specs.List.{list_all}
use Rattle.roam_conf.specs.Patterns.{is_reject, shown_pattern}
use Rattle.roam_conf_reader.proofs.pattern.are_rejects.Given as goal

abbrev pub invariant-loop-pattern : goal.invariant-loop-pattern
invariant-loop-pattern l =
    list_all is_reject (map shown_pattern (drop l.pattern-index l.patterns))
    ≡ list_all is_reject (map shown_pattern l.fn.patterns)
