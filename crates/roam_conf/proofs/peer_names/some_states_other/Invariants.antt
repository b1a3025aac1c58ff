use Rattle.std.proofs.Common.{◌≡◌, false, map, drop}
use Rattle.std.specs.List.{list_any}
use Rattle.std.specs.Option.{option_map_or}
use Rattle.roam_conf.specs.Index.{owners, is_unowned}
use Rattle.roam_conf.specs.Parts.{shown_realm}
use Rattle.roam_conf.proofs.peer_names.some_states_other.Given as goal

abbrev pub invariant-loop-realm : goal.invariant-loop-realm
invariant-loop-realm l =
    list_any (λ realm. option_map_or (list_any (is_unowned (owners l.index))) realm.peers false)
    (map shown_realm (drop l.realm-index l.realms))
    ≡ list_any (λ realm. option_map_or (list_any (is_unowned (owners l.fn.index))) realm.peers false)
    (map shown_realm l.fn.realms)
