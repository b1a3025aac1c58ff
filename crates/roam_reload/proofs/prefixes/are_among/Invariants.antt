use Rattle.std.proofs.Common.{◌≡◌, map, drop}
use Rattle.roam_address.specs.Prefixes.{shown_prefix}
use Rattle.roam_reload.specs.Kept.{are_among}
use Rattle.roam_reload.proofs.prefixes.are_among.Given as goal

abbrev pub invariant-loop-prefix : goal.invariant-loop-prefix
invariant-loop-prefix l =
    are_among (map shown_prefix l.others) (map shown_prefix (drop l.prefix-index l.prefixes))
    ≡ are_among (map shown_prefix l.fn.others) (map shown_prefix l.fn.prefixes)
