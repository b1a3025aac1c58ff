use Rattle.std.proofs.Common.{◌≡◌, ◌++◌, map, drop, string_bytes}
use Rattle.roam_conf.specs.Index.{owners, all_new, of_nobody}
use Rattle.roam_conf.proofs.nas_texts.note_texts.Given as goal

-- all are new just where those that are left are new beside those that were noted
abbrev pub invariant-loop-text : goal.invariant-loop-text
invariant-loop-text l =
    (all_new (owners l.index) (map of_nobody (map string_bytes (drop l.text-index l.texts)))
    ≡ all_new (owners l.fn.index) (map of_nobody (map string_bytes l.fn.texts)))
    × (owners l.index ++ map of_nobody (map string_bytes (drop l.text-index l.texts))
    ≡ owners l.fn.index ++ map of_nobody (map string_bytes l.fn.texts))
