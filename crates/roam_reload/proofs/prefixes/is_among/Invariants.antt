use Rattle.std.proofs.Common.{◌≡◌, map, drop}
use Rattle.std.specs.List.{list_any}
use Rattle.roam_address.specs.Prefixes.{shown_prefix}
use Rattle.roam_address.specs.Same.{same_prefix}
use Rattle.roam_reload.proofs.prefixes.is_among.Given as goal

abbrev pub invariant-loop-other : goal.invariant-loop-other
invariant-loop-other l =
    list_any (same_prefix (shown_prefix l.prefix)) (map shown_prefix (drop l.other-index l.others))
    ≡ list_any (same_prefix (shown_prefix l.fn.prefix)) (map shown_prefix l.fn.others)
