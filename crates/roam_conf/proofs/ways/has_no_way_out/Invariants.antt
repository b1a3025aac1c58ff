use Rattle.std.proofs.Common.{◌≡◌, not, map, drop}
use Rattle.std.specs.List.{list_all, list_any}
use Rattle.roam_conf.specs.Config.{RealmView}
use Rattle.roam_conf.specs.Parts.{shown_realm}
use Rattle.roam_conf.specs.Ways.{is_reached}
use Rattle.roam_conf.proofs.ways.has_no_way_out.Given as goal

abbrev pub invariant-loop-realm : goal.invariant-loop-realm
invariant-loop-realm l =
    list_any (λ (realm : RealmView). not (list_all (is_reached realm.out) realm.servers))
    (map shown_realm (drop l.realm-index l.realms))
    ≡ list_any (λ (realm : RealmView). not (list_all (is_reached realm.out) realm.servers))
    (map shown_realm l.fn.realms)
