use Rattle.std.proofs.Common.{◌≡◌, map, drop}
use Rattle.roam_conf.specs.Duplicates.{has_pair, same_peer}
use Rattle.roam_conf.specs.Parts.{shown_peer}
use Rattle.roam_conf_reader.proofs.equal_peers.has_equal_peers.Given as goal

abbrev pub invariant-loop-i : goal.invariant-loop-i
invariant-loop-i l =
    has_pair same_peer (map shown_peer (drop l.i l.peers)) ≡ has_pair same_peer (map shown_peer l.fn.peers)
