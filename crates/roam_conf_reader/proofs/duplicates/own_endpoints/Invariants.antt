use Rattle.std.proofs.Common.{◌≡◌, ◌++◌, map, drop}
use Rattle.std.specs.List.{flat_map}
use Rattle.roam_conf.specs.Duplicates.{own_endpoints, realm_endpoints}
use Rattle.roam_conf.specs.Parts.{shown_realm}
use Rattle.roam_conf_reader.proofs.duplicates.own_endpoints.Given as goal

abbrev pub invariant-loop-realm : goal.invariant-loop-realm
invariant-loop-realm l =
    l.endpoints.items ++ flat_map realm_endpoints (map shown_realm (drop l.realm-index l.realms))
    ≡ own_endpoints l.fn.auth l.fn.acct (map shown_realm l.fn.realms)
