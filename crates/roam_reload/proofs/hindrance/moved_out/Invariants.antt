use Rattle.std.proofs.Common.{◌≡◌, map, drop}
use Rattle.std.specs.List.{find, flat_map}
use Rattle.roam_conf.specs.Config.{RealmView}
use Rattle.roam_conf.specs.Parts.{shown_realm}
use Rattle.roam_conf.specs.Shown.{shown}
use Rattle.roam_reload.specs.Moves.{is_moved}
use Rattle.roam_reload.specs.Reload.{here}
use Rattle.roam_reload.specs.declared.kind.PlaceKind.TheVariants as kind
use Rattle.roam_reload.proofs.hindrance.moved_out.Given as goal

abbrev pub invariant-loop-nth : goal.invariant-loop-nth
invariant-loop-nth l =
    find (is_moved (shown l.new) kind.Out)
    (flat_map (λ (x : RealmView). x.out) (here (map shown_realm (drop l.nth l.realms))))
    ≡ find (is_moved (shown l.fn.new) kind.Out)
    (flat_map (λ (x : RealmView). x.out) (here (map shown_realm l.fn.realms)))
