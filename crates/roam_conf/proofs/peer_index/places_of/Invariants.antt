use Rattle.std.proofs.Common.{◌≡◌, ◌++◌, drop}
use Rattle.roam_conf.specs.PeerIndex.{places_in}
use Rattle.roam_conf.proofs.peer_index.places_of.Given as goal

-- what was pushed, and the indexes of the peers that are left, are all
abbrev pub invariant-loop-place : goal.invariant-loop-place
invariant-loop-place l = l.places.items ++ places_in l.place (drop l.place l.peers) ≡ places_in 0 l.fn.peers
