use Rattle.std.proofs.Common.{◌≡◌, map, drop, string_bytes}
use Rattle.std.specs.List.{list_any}
use Rattle.std.specs.Str.{bytes_eq}
use Rattle.roam_conf.proofs.asking.is_one_of.Given as goal

abbrev pub invariant-loop-other : goal.invariant-loop-other
invariant-loop-other l =
    list_any (bytes_eq l.name) (map string_bytes (drop l.other-index l.names))
    ≡ list_any (bytes_eq l.fn.name) (map string_bytes l.fn.names)
