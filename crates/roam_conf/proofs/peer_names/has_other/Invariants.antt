use Rattle.std.proofs.Common.{◌≡◌, map, drop, string_bytes}
use Rattle.std.specs.List.{list_any}
use Rattle.roam_conf.specs.Index.{owners, is_unowned}
use Rattle.roam_conf.proofs.peer_names.has_other.Given as goal

abbrev pub invariant-loop-name : goal.invariant-loop-name
invariant-loop-name l =
    list_any (is_unowned (owners l.index)) (map string_bytes (drop l.name-index l.names))
    ≡ list_any (is_unowned (owners l.fn.index)) (map string_bytes l.fn.names)
