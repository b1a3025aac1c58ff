use Rattle.std.proofs.Common.{◌≡◌, map, drop}
use Rattle.std.specs.List.{list_any}
use Rattle.roam_conf.specs.Duplicates.{has_pair_of_servers}
use Rattle.roam_conf.specs.Parts.{shown_realm}
use Rattle.roam_conf_reader.proofs.duplicates.has_duplicate_server.Given as goal

abbrev pub invariant-loop-realm : goal.invariant-loop-realm
invariant-loop-realm l =
    list_any has_pair_of_servers (map shown_realm (drop l.realm-index l.realms))
    ≡ list_any has_pair_of_servers (map shown_realm l.fn.realms)
