use Rattle.std.proofs.Common.{◌≡◌, ◌++◌, drop}
use Rattle.roam_conf.specs.PeerIndex.{prefixes_in}
use Rattle.roam_conf.proofs.peer_index.prefixes_of.Given as goal

-- what was pushed, and the prefixes of the peers that are left, are all
abbrev pub invariant-loop-peer : goal.invariant-loop-peer
invariant-loop-peer l = l.prefixes.items ++ prefixes_in (drop l.peer-index l.peers) ≡ prefixes_in l.fn.peers
