use Rattle.std.proofs.Common.{◌≡◌, ◌++◌, map, drop}
use Rattle.roam_conf.specs.Duplicates.{coa_endpoints}
use Rattle.roam_conf.specs.Parts.{shown_peer}
use Rattle.roam_conf_reader.proofs.duplicates.coa_endpoints.Given as goal

abbrev pub invariant-loop-peer : goal.invariant-loop-peer
invariant-loop-peer l =
    l.endpoints.items ++ coa_endpoints (map shown_peer (drop l.peer-index l.peers))
    ≡ coa_endpoints (map shown_peer l.fn.peers)
