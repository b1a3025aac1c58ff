use Rattle.std.proofs.Common.{◌≡◌, cond, map, drop, Some, None, string_bytes}
use Rattle.std.specs.List.{list_any}
use Rattle.std.specs.Option.{option_or}
use Rattle.roam_conf.specs.TargetIndex.{nas_owner}
use Rattle.roam_conf.specs.Targets.{NasPattern, nas_said, same_nas}
use Rattle.roam_conf.proofs.nas_index.note_texts.Given as goal

-- a pattern is of whom it was noted for, or else of the peer where one of the texts that are left says it
abbrev pub invariant-loop-text : goal.invariant-loop-text
invariant-loop-text l =
    (p : NasPattern) → option_or (nas_owner l.index p)
    (cond (list_any (same_nas p) (map nas_said (map string_bytes (drop l.text-index l.texts)))) (Some l.peer) None)
    ≡ option_or (nas_owner l.fn.index p)
    (cond (list_any (same_nas p) (map nas_said (map string_bytes l.fn.texts))) (Some l.fn.peer) None)
