use Rattle.std.proofs.Common.{◌≡◌, drop, map}
use Rattle.std.specs.List.{position_from}
use Rattle.roam_conf.specs.Lookup.{first_place}
use Rattle.roam_conf.specs.Parts.{shown_server}
use Rattle.roam_reload.specs.Kept.{same_server}
use Rattle.roam_reload.proofs.kept.place_of.Given as goal

abbrev pub invariant-loop-place : goal.invariant-loop-place
invariant-loop-place l =
    position_from (same_server (shown_server l.server)) l.place (map shown_server (drop l.place l.servers))
    ≡ first_place (same_server (shown_server l.fn.server)) (map shown_server l.fn.servers)
