use Rattle.std.proofs.Common.{◌≡◌, map, drop}
use Rattle.std.specs.List.{list_any}
use Rattle.roam_conf.specs.Duplicates.{same_peer}
use Rattle.roam_conf.specs.Parts.{shown_peer}
use Rattle.roam_conf_reader.proofs.equal_peers.is_among_peers.Given as goal

abbrev pub invariant-loop-other : goal.invariant-loop-other
invariant-loop-other l =
    list_any (same_peer (shown_peer l.peer)) (map shown_peer (drop l.other-index l.others))
    ≡ list_any (same_peer (shown_peer l.fn.peer)) (map shown_peer l.fn.others)
