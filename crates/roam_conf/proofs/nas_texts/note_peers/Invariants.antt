use Rattle.std.proofs.Common.{◌≡◌, map, drop}
use Rattle.roam_conf.specs.Duplicates.{nas_texts}
use Rattle.roam_conf.specs.Index.{owners, all_new, of_nobody}
use Rattle.roam_conf.specs.Parts.{shown_peer}
use Rattle.roam_conf.proofs.nas_texts.note_peers.Given as goal

-- all are new just where those of the peers that are left are new beside those that were noted
abbrev pub invariant-loop-peer : goal.invariant-loop-peer
invariant-loop-peer l =
    all_new (owners l.index) (map of_nobody (nas_texts (map shown_peer (drop l.peer-index l.peers))))
    ≡ all_new (owners l.fn.index) (map of_nobody (nas_texts (map shown_peer l.fn.peers)))
