use Rattle.std.proofs.Common.{◌≡◌, ◌+◌, ◌*◌, ◌≤◌, length, map, drop}
use Rattle.std.specs.List.{flat_map}
use Rattle.roam_conf.specs.Duplicates.{realm_endpoints}
use Rattle.roam_conf.specs.Parts.{shown_realm}
use Rattle.roam_port.proofs.sockets.sockets_of_all.Given as goal

abbrev pub invariant-loop-realm : goal.invariant-loop-realm
invariant-loop-realm l =
    (l.count + length (flat_map realm_endpoints (map shown_realm (drop l.realm-index l.realms)))
    ≡ length (flat_map realm_endpoints (map shown_realm l.fn.realms)))
    × (l.count ≤ 24 * l.realm-index)
