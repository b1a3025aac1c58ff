use Rattle.std.proofs.Common.{◌≡◌, map, drop}
use Rattle.std.specs.List.{position_from}
use Rattle.std.specs.Option.{option_or}
use Rattle.roam_conf.specs.Lookup.{first_place}
use Rattle.roam_conf.specs.Parts.{shown_peer}
use Rattle.roam_conf.specs.TargetIndex.{nas_owner}
use Rattle.roam_conf.specs.Targets.{NasPattern, has_nas}
use Rattle.roam_conf.proofs.nas_index.nas_of.Given as goal

-- the peer of a pattern is the one that was noted, or else one of those that are left
abbrev pub invariant-loop-place : goal.invariant-loop-place
invariant-loop-place l =
    (p : NasPattern) → option_or (nas_owner l.index p)
    (position_from (has_nas p) l.place (map shown_peer (drop l.place l.peers)))
    ≡ first_place (has_nas p) (map shown_peer l.fn.peers)
