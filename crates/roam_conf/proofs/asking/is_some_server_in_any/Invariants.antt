use Rattle.std.proofs.Common.{◌≡◌, map, drop}
use Rattle.std.specs.List.{list_any}
use Rattle.roam_address.specs.Prefixes.{shown_prefix}
use Rattle.roam_conf.specs.Asking.{some_server_in}
use Rattle.roam_conf.specs.Parts.{shown_server}
use Rattle.roam_conf.proofs.asking.is_some_server_in_any.Given as goal

abbrev pub invariant-loop-prefix : goal.invariant-loop-prefix
invariant-loop-prefix l =
    list_any (some_server_in (map shown_server l.servers)) (map shown_prefix (drop l.prefix-index l.prefixes))
    ≡ list_any (some_server_in (map shown_server l.fn.servers)) (map shown_prefix l.fn.prefixes)
