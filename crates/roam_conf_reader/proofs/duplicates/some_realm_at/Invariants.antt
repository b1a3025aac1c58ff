use Rattle.std.proofs.Common.{◌≡◌, map, drop}
use Rattle.std.specs.List.{list_any}
use Rattle.roam_conf.specs.Duplicates.{some_server_at}
use Rattle.roam_conf.specs.Parts.{shown_realm}
use Rattle.roam_conf_reader.proofs.duplicates.some_realm_at.Given as goal

abbrev pub invariant-loop-realm : goal.invariant-loop-realm
invariant-loop-realm l =
    list_any (λ realm. some_server_at l.endpoints.keys realm.servers) (map shown_realm (drop l.realm-index l.realms))
    ≡ list_any (λ realm. some_server_at l.fn.endpoints.keys realm.servers) (map shown_realm l.fn.realms)
