use Rattle.std.proofs.Common.{◌≡◌, map, drop}
use Rattle.std.specs.List.{flat_map}
use Rattle.roam_conf.specs.Config.{RealmView}
use Rattle.roam_conf.specs.Duplicates.{is_among}
use Rattle.roam_conf.specs.Parts.{shown_realm}
use Rattle.roam_reload.specs.Reload.{here}
use Rattle.roam_reload.proofs.kind.is_out.Given as goal

abbrev pub invariant-loop-realm : goal.invariant-loop-realm
invariant-loop-realm l =
    is_among (flat_map (λ (x : RealmView). x.out) (here (map shown_realm (drop l.realm-index l.realms)))) l.endpoint
    ≡ is_among (flat_map (λ (x : RealmView). x.out) (here (map shown_realm l.fn.realms))) l.fn.endpoint
